use Rattle.std.proofs.Common.{true, ◌≡◌, ◌+◌, ℕ, Some, refl, ap, sym, ◌∙◌, arith}
use Rattle.spec_tree.specs.Tree.{need_of}
use Rattle.spec_core.specs.declared.act.Act.TheVariants.{Retire}
use Rattle.spec_core.specs.declared.reply.Reply.TheVariants.{Retired}
use Rattle.bv_volume.specs.Adding.{IsAdmitted}
use Rattle.bv_volume.specs.Kept.{seen_of}
use Rattle.bv_volume.specs.Spaced.{Spaced}
use Rattle.bv_volume.proofs.SessionCalls.{admitted_is, ordered_ended}
use Rattle.bv_volume.proofs.Adds.{Ends, add_is_part, adds_are_sole, adds_less, end_room, length_less, same_version, spaced_ends, tabled_add}
use Rattle.bv_volume.proofs.Silent.{CallDone, quiet_call}
use Rattle.bv_volume.proofs.Still.{still}
use Rattle.bv_volume.proofs.Sound.{same_map, sound_silent}
use Rattle.bv_volume.proofs.volume.Volume.retire.Goals as goal
use Rattle.bv_volume.proofs.volume.Volume.retire.Goals.{After-note}
use Rattle.bv_volume.proofs.volume.Volume.retire.Given.{Over}

pub note-requires : goal.note-requires
note-requires g c =
    let i = c.self.inside in
    let b : IsAdmitted (seen_of i.history i.first i.ledger i.space (g.S.Store.seen i.store)) c.args.add = admitted_is c.self.inside.history c.self.inside.first c.self.inside.ledger c.self.inside.space (g.S.Store.seen c.self.inside.store) (g.S.Store.both c.self.inside.store) c.args.who.session c.self.invariant.0 c.self.invariant.2 c.args.add (rw (← c.self.view_is) at c.requires) in
    omega (arith, c.self.invariant.0.apart, length_less i.ledger.adds c.args.add.root c.args.add.size (tabled_add i.history i.first i.ledger (g.S.Store.seen i.store) (g.S.Store.both i.store) c.self.invariant.0 c.args.add.root c.args.add.size b.under_way))

done : (g : Over) (c : After-note g) → CallDone c.self.inside.history c.note.new.history c.self.inside.first c.self.inside.ledger c.retire-2.new.self c.self.inside.space c.retire.new.self (g.S.Store.seen c.self.inside.store) (g.S.Store.seen c.self.inside.store) (g.S.Store.both c.self.inside.store) c.args.who (Retire c.args.add.root) (Some Retired)
done g c =
    let i = c.self.inside in
    let s = g.S.Store.seen i.store in
    let b : IsAdmitted (seen_of i.history i.first i.ledger i.space s) c.args.add = admitted_is c.self.inside.history c.self.inside.first c.self.inside.ledger c.self.inside.space (g.S.Store.seen c.self.inside.store) (g.S.Store.both c.self.inside.store) c.args.who.session c.self.invariant.0 c.self.invariant.2 c.args.add (rw (← c.self.view_is) at c.requires) in
    let under = tabled_add i.history i.first i.ledger s (g.S.Store.both i.store) c.self.invariant.0 c.args.add.root c.args.add.size b.under_way in
    let adds = adds_less i.ledger c.retire-2.new.self _ _ c.args.who c.args.add.root c.self.invariant.0.accounts c.retire-2.ensures in
    quiet_call i.history c.note.new.history i.first i.ledger c.retire-2.new.self i.space c.retire.new.self s (g.S.Store.both i.store) c.args.who (Retire c.args.add.root) (Some Retired) c.retire.ensures.claims
    (rw (c.calls.ensures) at c.note.ensures) c.self.invariant.0 c.retire-2.ensures (refl, refl)
    (end_room i.history i.first i.ledger c.retire-2.new.self s (g.S.Store.both i.store) c.args.add.root c.args.add.size c.self.invariant.0 adds under) (g.met.S.Store.counted i.store)

spaced : (g : Over) (c : After-note g) → Spaced c.retire-2.new.self c.retire.new.self (g.S.Store.seen c.self.inside.store) (g.S.Store.held c.self.inside.store)
spaced g c =
    let i = c.self.inside in
    let s = g.S.Store.seen i.store in
    let b : IsAdmitted (seen_of i.history i.first i.ledger i.space s) c.args.add = admitted_is c.self.inside.history c.self.inside.first c.self.inside.ledger c.self.inside.space (g.S.Store.seen c.self.inside.store) (g.S.Store.both c.self.inside.store) c.args.who.session c.self.invariant.0 c.self.invariant.2 c.args.add (rw (← c.self.view_is) at c.requires) in
    let under = tabled_add i.history i.first i.ledger s (g.S.Store.both i.store) c.self.invariant.0 c.args.add.root c.args.add.size b.under_way in
    let version = same_version i.history i.first i.ledger s (g.S.Store.both i.store) c.self.invariant.0 in
    let e = c.retire.ensures in
    let some = rw b.has at e.some in
    let need : c.retire.new.self.room ≡ i.space.room + need_of i.ledger.setting.version c.args.add.size = some.1 ∙ ap (λ (k : ℕ). i.space.room + k) (b.need ∙ ap (λ (v : ℕ). need_of v c.args.add.size) (sym version)) in
    let ends : Ends i.space c.retire.new.self c.args.add.root (need_of i.ledger.setting.version c.args.add.size) b.blocks.items = record {
      owned = some.0;
      room = need;
      adds = e.adds;
      claims = e.claims;
      gone = e.gone.0;
      nodes = e.nodes;
      once = e.once;
    } in
    spaced_ends i.ledger c.retire-2.new.self i.space c.retire.new.self s (g.S.Store.held i.store) c.args.add.root c.args.add.size b.blocks
    (still i.ledger c.retire-2.new.self _ _ c.args.who (Retire c.args.add.root) Retired c.self.invariant.0.accounts c.retire-2.ensures refl)
    (adds_less i.ledger c.retire-2.new.self _ _ c.args.who c.args.add.root c.self.invariant.0.accounts c.retire-2.ensures) under b.has
    (adds_are_sole i.history i.first i.ledger s (g.S.Store.both i.store) c.self.invariant.0) ends c.self.invariant.1

pub invariant_of-self : goal.invariant_of-self
invariant_of-self g c =
    let i = c.self.inside in
    let s = g.S.Store.seen i.store in (
      (done g c).kept,
      spaced g c,
      ordered_ended i.history i.first i.ledger i.space s (g.S.Store.both i.store) c.args.who.session c.self.invariant.0 c.self.invariant.2 c.note.new.history c.retire.new.self c.args.who (Retire c.args.add.root) (Retired) s.calls (record { root = c.args.add.root; size = c.args.add.size; admitted = true; puts = c.args.add.put }) refl (rw (← c.self.view_is) at c.requires) (rw (c.calls.ensures) at c.note.ensures) refl (λ w. w.0) refl refl c.retire.ensures.adds c.retire.ensures.nodes,
      sound_silent i.history c.note.new.history i.ledger.map c.retire-2.new.self.map s c.args.who (Retire c.args.add.root) (Some (Retired)) s.calls (rw (c.calls.ensures) at c.note.ensures)
          (same_map i.ledger c.retire-2.new.self _ _ c.args.who (Retire c.args.add.root) (Some (Retired)) c.self.invariant.0.accounts c.retire-2.ensures (refl, refl)) refl c.self.invariant.3,
    )

pub returns-clause-row : goal.returns-clause-row
returns-clause-row g c = rw (← c.self.view_is) (done g c).does

pub returns-clause-crash : goal.returns-clause-crash
returns-clause-crash g c = (done g c).safe

pub retire-requires : goal.retire-requires
retire-requires g c =
    let i = c.self.inside in
    let b : IsAdmitted (seen_of i.history i.first i.ledger i.space (g.S.Store.seen i.store)) c.args.add = admitted_is c.self.inside.history c.self.inside.first c.self.inside.ledger c.self.inside.space (g.S.Store.seen c.self.inside.store) (g.S.Store.both c.self.inside.store) c.args.who.session c.self.invariant.0 c.self.invariant.2 c.args.add (rw (← c.self.view_is) at c.requires) in
    rw (b.has) (add_is_part i.ledger i.space (g.S.Store.seen i.store) (g.S.Store.held i.store) c.args.add.root b.blocks b.has c.self.invariant.1)
