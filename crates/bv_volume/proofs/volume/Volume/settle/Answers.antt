use Rattle.std.proofs.Common.{true, ◌≡◌, ◌+◌, ℕ, Some, refl, ap, sym, ◌∙◌, Option, is_some}
use Rattle.spec_tree.specs.Tree.{need_of}
use Rattle.spec_core.specs.declared.act.Act.TheVariants.{Settle}
use Rattle.bv_ledger.specs.Answers.{refusal_reply}
use Rattle.bv_volume.specs.Adding.{IsAdmitted}
use Rattle.bv_volume.specs.Kept.{seen_of}
use Rattle.bv_volume.specs.Spaced.{Spaced}
use Rattle.bv_volume.proofs.SessionCalls.{admitted_is, ordered_ended}
use Rattle.bv_volume.proofs.Adds.{Ends, add_is_part, adds_are_sole, settle_less, end_room, same_version, spaced_ends, tabled_add}
use Rattle.bv_volume.proofs.Quiet.{silent_quiet}
use Rattle.bv_volume.proofs.Located.{refusal_unpublished}
use Rattle.bv_volume.proofs.Silent.{CallDone, quiet_call, refusal_silent}
use Rattle.bv_volume.proofs.Still.{still}
use Rattle.bv_volume.proofs.Rings.{ring_refused}
use Rattle.bv_volume.proofs.Sound.{same_map, sound_silent}
use Rattle.bv_volume.proofs.volume.Volume.settle.Goals as goal
use Rattle.bv_volume.proofs.volume.Volume.settle.Goals.{After-settle_refusal}
use Rattle.bv_volume.proofs.volume.Volume.settle.Given.{Over}

done : (g : Over) (c : After-settle_refusal g) → CallDone c.self.inside.history c.note.new.history c.self.inside.first c.self.inside.ledger c.settle_refused.new.self c.self.inside.space c.retire.new.self (g.S.Store.seen c.self.inside.store) (g.S.Store.seen c.self.inside.store) (g.S.Store.both c.self.inside.store) c.args.who (Settle c.args.add.root) (Some (refusal_reply c.in-Some.refusal))
done g c =
    let i = c.self.inside in
    let s = g.S.Store.seen i.store in
    let b : IsAdmitted (seen_of i.history i.first i.ledger i.space s) c.args.add = admitted_is c.self.inside.history c.self.inside.first c.self.inside.ledger c.self.inside.space (g.S.Store.seen c.self.inside.store) (g.S.Store.both c.self.inside.store) c.args.who.session c.self.invariant.0 c.self.invariant.2 c.args.add (rw (← c.self.view_is) at c.requires.add) in
    let under = tabled_add i.history i.first i.ledger s (g.S.Store.both i.store) c.self.invariant.0 c.args.add.root c.args.add.size b.under_way in
    let adds = settle_less i.ledger c.settle_refused.new.self _ _ c.args.who c.args.add.root c.in-Some.refusal c.self.invariant.0.accounts c.in-Some.ensures.refused in
    quiet_call i.history c.note.new.history i.first i.ledger c.settle_refused.new.self i.space c.retire.new.self s (g.S.Store.both i.store) c.args.who (Settle c.args.add.root) (Some (refusal_reply c.in-Some.refusal)) c.retire.ensures.claims
    (rw (c.refusal_reply-reply.ensures, c.calls.ensures) at c.note.ensures) c.self.invariant.0 c.in-Some.ensures.refused (refusal_silent c.in-Some.refusal)
    (end_room i.history i.first i.ledger c.settle_refused.new.self s (g.S.Store.both i.store) c.args.add.root c.args.add.size c.self.invariant.0 adds under) (g.met.S.Store.counted i.store)

spaced : (g : Over) (c : After-settle_refusal g) → Spaced c.settle_refused.new.self c.retire.new.self (g.S.Store.seen c.self.inside.store) (g.S.Store.held c.self.inside.store)
spaced g c =
    let i = c.self.inside in
    let s = g.S.Store.seen i.store in
    let b : IsAdmitted (seen_of i.history i.first i.ledger i.space s) c.args.add = admitted_is c.self.inside.history c.self.inside.first c.self.inside.ledger c.self.inside.space (g.S.Store.seen c.self.inside.store) (g.S.Store.both c.self.inside.store) c.args.who.session c.self.invariant.0 c.self.invariant.2 c.args.add (rw (← c.self.view_is) at c.requires.add) in
    let under = tabled_add i.history i.first i.ledger s (g.S.Store.both i.store) c.self.invariant.0 c.args.add.root c.args.add.size b.under_way in
    let version = same_version i.history i.first i.ledger s (g.S.Store.both i.store) c.self.invariant.0 in
    let e = c.retire.ensures in
    let some = rw b.has at e.some in
    let need : c.retire.new.self.room ≡ i.space.room + need_of i.ledger.setting.version c.args.add.size = some.1 ∙ ap (λ (k : ℕ). i.space.room + k) (b.need ∙ ap (λ (v : ℕ). need_of v c.args.add.size) (sym version)) in
    let ends : Ends i.space c.retire.new.self c.args.add.root (need_of i.ledger.setting.version c.args.add.size) b.blocks.items = record {
      owned = some.0;
      room = need;
      adds = e.adds;
      claims = e.claims;
      gone = e.gone.0;
      nodes = e.nodes;
      once = e.once;
    } in
    spaced_ends i.ledger c.settle_refused.new.self i.space c.retire.new.self s (g.S.Store.held i.store) c.args.add.root c.args.add.size b.blocks
    (still i.ledger c.settle_refused.new.self _ _ c.args.who (Settle c.args.add.root) (refusal_reply c.in-Some.refusal) c.self.invariant.0.accounts c.in-Some.ensures.refused (silent_quiet (refusal_reply c.in-Some.refusal) (refusal_silent c.in-Some.refusal).0))
    (settle_less i.ledger c.settle_refused.new.self _ _ c.args.who c.args.add.root c.in-Some.refusal c.self.invariant.0.accounts c.in-Some.ensures.refused) under b.has
    (adds_are_sole i.history i.first i.ledger s (g.S.Store.both i.store) c.self.invariant.0) ends c.self.invariant.1

pub invariant_of-self : goal.invariant_of-self
invariant_of-self g c =
    let i = c.self.inside in
    let s = g.S.Store.seen i.store in (
      (done g c).kept,
      spaced g c,
      ordered_ended i.history i.first i.ledger i.space s (g.S.Store.both i.store) c.args.who.session c.self.invariant.0 c.self.invariant.2 c.note.new.history c.retire.new.self c.args.who (Settle c.args.add.root) (refusal_reply c.in-Some.refusal) s.calls (record { root = c.args.add.root; size = c.args.add.size; admitted = true; puts = c.args.add.put }) refl (rw (← c.self.view_is) at c.requires.add) (rw (c.refusal_reply-reply.ensures, c.calls.ensures) at c.note.ensures) refl (λ w. w.0) (refusal_unpublished c.args.add.root c.in-Some.refusal) refl c.retire.ensures.adds c.retire.ensures.nodes,
      sound_silent i.history c.note.new.history i.ledger.map c.settle_refused.new.self.map s c.args.who (Settle c.args.add.root) (Some (refusal_reply c.in-Some.refusal)) s.calls (rw (c.refusal_reply-reply.ensures, c.calls.ensures) at c.note.ensures)
          (same_map i.ledger c.settle_refused.new.self _ _ c.args.who (Settle c.args.add.root) (Some (refusal_reply c.in-Some.refusal)) c.self.invariant.0.accounts c.in-Some.ensures.refused (refusal_silent c.in-Some.refusal)) (refusal_unpublished c.args.add.root c.in-Some.refusal) c.self.invariant.3,
    )

pub returns-in-Some-clause-row : goal.returns-in-Some-clause-row
returns-in-Some-clause-row g c = rw (← c.self.view_is, c.settle_refusal.ensures) (done g c).does

pub returns-in-Some-clause-ring : goal.returns-in-Some-clause-ring
returns-in-Some-clause-ring g c = ring_refused c.settle_refusal.result c.in-Some.refusal c.args.self.now.store (g.S.Store.seen c.self.inside.store) c.settle_refusal.ensures

pub returns-in-Some-clause-crash : goal.returns-in-Some-clause-crash
returns-in-Some-clause-crash g c = (done g c).safe

pub retire-requires : goal.retire-requires
retire-requires g c =
    let i = c.self.inside in
    let b : IsAdmitted (seen_of i.history i.first i.ledger i.space (g.S.Store.seen i.store)) c.args.add = admitted_is c.self.inside.history c.self.inside.first c.self.inside.ledger c.self.inside.space (g.S.Store.seen c.self.inside.store) (g.S.Store.both c.self.inside.store) c.args.who.session c.self.invariant.0 c.self.invariant.2 c.args.add (rw (← c.self.view_is) at c.requires.add) in
    rw (b.has) (add_is_part i.ledger i.space (g.S.Store.seen i.store) (g.S.Store.held i.store) c.args.add.root b.blocks b.has c.self.invariant.1)

pub settle_refused-requires : goal.settle_refused-requires
settle_refused-requires g c =
    let i = c.self.inside in
    let s = g.S.Store.seen i.store in
    let b : IsAdmitted (seen_of i.history i.first i.ledger i.space s) c.args.add = admitted_is i.history i.first i.ledger i.space s (g.S.Store.both i.store) c.args.who.session c.self.invariant.0 c.self.invariant.2 c.args.add (rw (← c.self.view_is) at c.requires.add) in
    ap (λ (x : Option ℕ). is_some x) (tabled_add i.history i.first i.ledger s (g.S.Store.both i.store) c.self.invariant.0 c.args.add.root c.args.add.size b.under_way)
