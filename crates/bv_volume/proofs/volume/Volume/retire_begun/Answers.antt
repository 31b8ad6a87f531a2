use Rattle.spec_session.specs.Own.{new_add}
use Rattle.std.proofs.Common.{◌≡◌, ◌+◌, ℕ, Some, refl, ap, sym, ◌∙◌, arith}
use Rattle.spec_tree.specs.Tree.{need_of}
use Rattle.spec_core.specs.declared.act.Act.TheVariants.{Retire}
use Rattle.spec_core.specs.declared.reply.Reply.TheVariants.{Retired}
use Rattle.bv_claims.proofs.Counts.{times-append}
use Rattle.bv_claims.specs.Blocks.{times}
use Rattle.bv_volume.specs.Adding.{IsBegun}
use Rattle.bv_volume.specs.Kept.{seen_of}
use Rattle.bv_volume.specs.Spaced.{Spaced}
use Rattle.bv_volume.proofs.SessionCalls.{begun_is, ordered_ended}
use Rattle.bv_volume.proofs.Adds.{Ends, adds_are_sole, adds_less, end_room, length_less, same_version, spaced_ends, tabled_add}
use Rattle.bv_volume.proofs.Silent.{CallDone, quiet_call}
use Rattle.bv_volume.proofs.Still.{still}
use Rattle.bv_volume.proofs.Sound.{same_map, sound_silent}
use Rattle.bv_volume.proofs.volume.Volume.retire_begun.Goals as goal
use Rattle.bv_volume.proofs.volume.Volume.retire_begun.Goals.{After-note}
use Rattle.bv_volume.proofs.volume.Volume.retire_begun.Given.{Over}

pub note-requires : goal.note-requires
note-requires g c =
    let i = c.self.inside in
    let b : IsBegun (seen_of i.history i.first i.ledger i.space (g.S.Store.seen i.store)) c.args.begun = begun_is c.self.inside.history c.self.inside.first c.self.inside.ledger c.self.inside.space (g.S.Store.seen c.self.inside.store) (g.S.Store.both c.self.inside.store) c.args.who.session c.self.invariant.0 c.self.invariant.2 c.args.begun (rw (← c.self.view_is) at c.requires.begun) in
    omega (arith, c.self.invariant.0.apart, length_less i.ledger.adds c.args.begun.root c.args.begun.size (tabled_add i.history i.first i.ledger (g.S.Store.seen i.store) (g.S.Store.both i.store) c.self.invariant.0 c.args.begun.root c.args.begun.size b.under_way))

done : (g : Over) (c : After-note g) → CallDone c.self.inside.history c.note.new.history c.self.inside.first c.self.inside.ledger c.retire.new.self c.self.inside.space c.give_back.new.self (g.S.Store.seen c.self.inside.store) (g.S.Store.seen c.self.inside.store) (g.S.Store.both c.self.inside.store) c.args.who (Retire c.args.begun.root) (Some Retired)
done g c =
    let i = c.self.inside in
    let s = g.S.Store.seen i.store in
    let b : IsBegun (seen_of i.history i.first i.ledger i.space s) c.args.begun = begun_is c.self.inside.history c.self.inside.first c.self.inside.ledger c.self.inside.space (g.S.Store.seen c.self.inside.store) (g.S.Store.both c.self.inside.store) c.args.who.session c.self.invariant.0 c.self.invariant.2 c.args.begun (rw (← c.self.view_is) at c.requires.begun) in
    let under = tabled_add i.history i.first i.ledger s (g.S.Store.both i.store) c.self.invariant.0 c.args.begun.root c.args.begun.size b.under_way in
    let adds = adds_less i.ledger c.retire.new.self _ _ c.args.who c.args.begun.root c.self.invariant.0.accounts c.retire.ensures in
    quiet_call i.history c.note.new.history i.first i.ledger c.retire.new.self i.space c.give_back.new.self s (g.S.Store.both i.store) c.args.who (Retire c.args.begun.root) (Some Retired) c.give_back.ensures.claims
    (rw (c.calls.ensures) at c.note.ensures) c.self.invariant.0 c.retire.ensures (refl, refl)
    (end_room i.history i.first i.ledger c.retire.new.self s (g.S.Store.both i.store) c.args.begun.root c.args.begun.size c.self.invariant.0 adds under) (g.met.S.Store.counted i.store)

spaced : (g : Over) (c : After-note g) → Spaced c.retire.new.self c.give_back.new.self (g.S.Store.seen c.self.inside.store) (g.S.Store.held c.self.inside.store)
spaced g c =
    let i = c.self.inside in
    let s = g.S.Store.seen i.store in
    let b : IsBegun (seen_of i.history i.first i.ledger i.space s) c.args.begun = begun_is c.self.inside.history c.self.inside.first c.self.inside.ledger c.self.inside.space (g.S.Store.seen c.self.inside.store) (g.S.Store.both c.self.inside.store) c.args.who.session c.self.invariant.0 c.self.invariant.2 c.args.begun (rw (← c.self.view_is) at c.requires.begun) in
    let under = tabled_add i.history i.first i.ledger s (g.S.Store.both i.store) c.self.invariant.0 c.args.begun.root c.args.begun.size b.under_way in
    let version = same_version i.history i.first i.ledger s (g.S.Store.both i.store) c.self.invariant.0 in
    let e = c.give_back.ensures in
    let need : c.give_back.new.self.room ≡ i.space.room + need_of i.ledger.setting.version c.args.begun.size = e.room ∙ ap (λ (k : ℕ). i.space.room + k) ((rw (← c.self.view_is) at c.requires.claimed).budget ∙ ap (λ (v : ℕ). need_of v c.args.begun.size) (sym version)) in
    let ends : Ends i.space c.give_back.new.self c.args.begun.root (need_of i.ledger.setting.version c.args.begun.size) b.blocks.items = record {
      owned = λ x. omega (arith, e.owned x, times-append x c.give_back.new.self.owned b.blocks.items, ap (times x) b.none);
      room = need;
      adds = e.adds;
      claims = e.claims;
      gone = e.gone.0;
      nodes = e.nodes;
      once = e.once;
    } in
    spaced_ends i.ledger c.retire.new.self i.space c.give_back.new.self s (g.S.Store.held i.store) c.args.begun.root c.args.begun.size b.blocks
    (still i.ledger c.retire.new.self _ _ c.args.who (Retire c.args.begun.root) Retired c.self.invariant.0.accounts c.retire.ensures refl)
    (adds_less i.ledger c.retire.new.self _ _ c.args.who c.args.begun.root c.self.invariant.0.accounts c.retire.ensures) under b.has
    (adds_are_sole i.history i.first i.ledger s (g.S.Store.both i.store) c.self.invariant.0) ends c.self.invariant.1

pub invariant_of-self : goal.invariant_of-self
invariant_of-self g c =
    let i = c.self.inside in
    let s = g.S.Store.seen i.store in (
      (done g c).kept,
      spaced g c,
      ordered_ended i.history i.first i.ledger i.space s (g.S.Store.both i.store) c.args.who.session c.self.invariant.0 c.self.invariant.2 c.note.new.history c.give_back.new.self c.args.who (Retire c.args.begun.root) (Retired) s.calls (new_add c.args.begun.root c.args.begun.size) refl (rw (← c.self.view_is) at c.requires.begun) (rw (c.calls.ensures) at c.note.ensures) refl (λ w. w.0) refl refl c.give_back.ensures.adds c.give_back.ensures.nodes,
      sound_silent i.history c.note.new.history i.ledger.map c.retire.new.self.map s c.args.who (Retire c.args.begun.root) (Some (Retired)) s.calls (rw (c.calls.ensures) at c.note.ensures)
          (same_map i.ledger c.retire.new.self _ _ c.args.who (Retire c.args.begun.root) (Some (Retired)) c.self.invariant.0.accounts c.retire.ensures (refl, refl)) refl c.self.invariant.3,
    )

pub returns-clause-row : goal.returns-clause-row
returns-clause-row g c = rw (← c.self.view_is) (done g c).does

pub returns-clause-crash : goal.returns-clause-crash
returns-clause-crash g c = (done g c).safe

pub give_back-requires : goal.give_back-requires
give_back-requires g c = record { table = (rw (← c.self.view_is) at c.requires.claimed).table }
