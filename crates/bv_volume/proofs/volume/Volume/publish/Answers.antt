use Rattle.std.proofs.Common.{true, refl, ◌≡◌, ◌<◌, ◌^◌, ℕ, List, Option, Some, None, IfSome, [], refl, ap, sym, ◌∙◌, subst, arith, is_some}
use Rattle.std.specs.Global.{Vec}
use Rattle.spec_core.specs.History.{last_state}
use Rattle.spec_core.specs.State.{State, find}
use Rattle.spec_core.specs.declared.setting.Setting.{Setting}
use Rattle.spec_core.specs.declared.act.Act.TheVariants.{Settle}
use Rattle.spec_core.specs.declared.reply.Reply.TheVariants.{Published}
use Rattle.bv_space.specs.Owned.{Owned}
use Rattle.bv_ledger.specs.Answers.{device_reply}
use Rattle.bv_ledger.specs.Tables.{Tables}
use Rattle.spec_core.specs.Log.{without}
use Rattle.bv_store.specs.Stored.{Stored, Grows, SameData}
use Rattle.bv_volume.specs.Sessions.{Ordered}
use Rattle.bv_volume.specs.Adding.{IsAdmitted}
use Rattle.bv_volume.specs.Events.{Does}
use Rattle.bv_volume.specs.Kept.{Kept, seen_of}
use Rattle.bv_volume.specs.Publishing.{Planned}
use Rattle.bv_volume.specs.Seen.{Seen}
use Rattle.bv_volume.specs.Sound.{PublishedAreSound}
use Rattle.bv_volume.specs.Spaced.{Handed, Spaced}
use Rattle.bv_volume.proofs.Adds.{tabled_add}
use Rattle.bv_volume.specs.declared.tokens.Admitted.{Admitted}
use Rattle.bv_volume.specs.declared.volume.Volume.TheInside.{Inside}
use Rattle.bv_volume.proofs.SessionCalls.{admitted_is, handed_adds, handed_claims, handed_nodes, ordered_ends, put_is, put_wrote}
use Rattle.bv_volume.proofs.Freed.{are_taken, map_is_sole, queue_lies, spaced_planned}
use Rattle.bv_volume.proofs.Publishes.{can_write, entry, handed_spare, is_there, may, may_lie, planned, publish_call, publish_placed, publish_spaced, spaced_spare, taken_free, whole_blob}
use Rattle.bv_volume.proofs.Contents.{keeps_publish}
use Rattle.bv_volume.proofs.Located.{located_publish}
use Rattle.bv_volume.proofs.Silent.{CallDone}
use Rattle.bv_volume.proofs.Ties.{kept_planned}
use Rattle.bv_volume.specs.Wrote.{RingFalls}
use Rattle.bv_volume.proofs.Rings.{ring_settled}
use Rattle.bv_volume.proofs.Sound.{sound_publish}
use Rattle.bv_volume.proofs.volume.Volume.publish.Goals as goal
use Rattle.bv_volume.proofs.volume.Volume.publish.Goals.{After-drop-purged}
use Rattle.bv_volume.proofs.volume.Volume.publish.Given.{Over}

-- the add is the token's, and an entry may be written for it
record Ready (g : Over) (i : Inside g.row.S.Denot) (a : Admitted) : Type 0 where
  old : IsAdmitted (seen_of i.history i.first i.ledger i.space (g.S.Store.seen i.store)) a
  going : i.ledger.stopped ≡ None
  number : i.ledger.next < 2 ^ 62

ready : (g : Over) (i : Inside g.row.S.Denot) (a : Admitted) → Kept i.history i.first i.ledger (g.S.Store.seen i.store) (g.S.Store.both i.store) → IsAdmitted (seen_of i.history i.first i.ledger i.space (g.S.Store.seen i.store)) a → (last_state i.history.history i.first).stopped ≡ None → (last_state i.history.history i.first).next < 2 ^ 62 → Ready g i a
ready g i a kept old going number = record {
  old = old;
  going = sym (ap (λ (x : State). x.stopped) kept.state) ∙ going;
  number = subst (λ (k : ℕ). k < 2 ^ 62) (ap (λ (x : State). x.next) kept.state) number;
}

pub prepare_entry-requires-clause-lies : goal.prepare_entry-requires-clause-lies
prepare_entry-requires-clause-lies g c = λ r h.
    let i = c.self.inside in
    let s = g.S.Store.seen i.store in
    let k = ready g i c.args.add c.self.invariant.0 (admitted_is c.self.inside.history c.self.inside.first c.self.inside.ledger c.self.inside.space (g.S.Store.seen c.self.inside.store) (g.S.Store.both c.self.inside.store) c.args.who.session c.self.invariant.0 c.self.invariant.2 c.args.add (rw (← c.self.view_is) at c.requires.add)) (rw (← c.self.view_is) at c.requires.going) (rw (← c.self.view_is) at c.requires.number) in
    queue_lies i.history i.first i.ledger i.ledger i.space i.space s s (g.S.Store.both i.store) (g.S.Store.held i.store) (g.S.Store.held i.store) c.args.who c.self.invariant.0 c.self.invariant.1 k.going r h

pub prepare_entry-requires-clause-publish : goal.prepare_entry-requires-clause-publish
prepare_entry-requires-clause-publish g c =
    let i = c.self.inside in
    let s = g.S.Store.seen i.store in
    let k = ready g i c.args.add c.self.invariant.0 (admitted_is c.self.inside.history c.self.inside.first c.self.inside.ledger c.self.inside.space (g.S.Store.seen c.self.inside.store) (g.S.Store.both c.self.inside.store) c.args.who.session c.self.invariant.0 c.self.invariant.2 c.args.add (rw (← c.self.view_is) at c.requires.add)) (rw (← c.self.view_is) at c.requires.going) (rw (← c.self.view_is) at c.requires.number) in
    may i.history i.first i.ledger i.ledger i.space i.space s s s (g.S.Store.both i.store) (g.S.Store.both i.store) (g.S.Store.both i.store) (g.S.Store.held i.store) (g.S.Store.held i.store) (g.S.Store.held i.store) c.args.who c.self.invariant.0 c.self.invariant.1 c.args.add k.old k.going k.number

pub prepare_entry-requires-clause-may : goal.prepare_entry-requires-clause-may
prepare_entry-requires-clause-may g c =
    let i = c.self.inside in
    let s = g.S.Store.seen i.store in
    let k = ready g i c.args.add c.self.invariant.0 (admitted_is c.self.inside.history c.self.inside.first c.self.inside.ledger c.self.inside.space (g.S.Store.seen c.self.inside.store) (g.S.Store.both c.self.inside.store) c.args.who.session c.self.invariant.0 c.self.invariant.2 c.args.add (rw (← c.self.view_is) at c.requires.add)) (rw (← c.self.view_is) at c.requires.going) (rw (← c.self.view_is) at c.requires.number) in
    rw (k.old.has, c.setting.ensures) (may_lie i.history i.first i.ledger i.ledger i.space i.space s s s (g.S.Store.both i.store) (g.S.Store.both i.store) (g.S.Store.both i.store) (g.S.Store.held i.store) (g.S.Store.held i.store) (g.S.Store.held i.store) c.args.who c.self.invariant.0 c.self.invariant.1 c.args.add k.old k.going k.number)

pub invariant_of-self : goal.invariant_of-self
invariant_of-self g c =
    let i = c.self.inside in
    let s = g.S.Store.seen i.store in
    let z = g.S.Store.seen c.prepare_entry.new.store in
    let e = c.in-Err.ensures.err in
    let x = e.1.0 in (
      subst (λ (t : Tables). Kept i.history i.first t z (g.S.Store.both c.prepare_entry.new.store)) (sym e.0) (kept_planned i.history i.first i.ledger s z (g.S.Store.both i.store) (g.S.Store.both c.prepare_entry.new.store) x e.1.1 c.in-Err.ensures.both c.self.invariant.0),
      subst (λ (t : Tables). Spaced t c.prepare_entry.new.space z (g.S.Store.held c.prepare_entry.new.store)) (sym e.0)
          (subst (λ (o : Owned). Spaced i.ledger o z (g.S.Store.held c.prepare_entry.new.store)) (sym c.in-Err.ensures.space)
          (spaced_spare i.ledger i.space c.prepare_entry.new.space.spare z (g.S.Store.held c.prepare_entry.new.store) (spaced_planned i.ledger i.space s z (g.S.Store.held i.store) (g.S.Store.held c.prepare_entry.new.store) x e.1.1 c.in-Err.ensures.held c.self.invariant.1))),
      subst (λ (x : Owned). Ordered i.history.history x z) (sym c.in-Err.ensures.space) (subst (λ (y : Stored). Ordered i.history.history i.space y) (sym e.1.1) c.self.invariant.2),
      subst (λ (t : Tables). PublishedAreSound i.history.history t.map z) (sym e.0) (subst (λ (y : Stored). PublishedAreSound i.history.history i.ledger.map y) (sym e.1.1) c.self.invariant.3),
    )

-- what the memory was taken for
plan_of : (g : Over) (i : Inside g.row.S.Denot) (a : Admitted) (k : Ready g i a) (z : Stored) (set : Setting) → set ≡ i.ledger.setting → IfSome (find i.space.adds a.root) (λ v. Planned (g.S.Store.seen i.store) z i.ledger.queue a.root (record { size = a.size; version = set.version }) v.items) → Planned (g.S.Store.seen i.store) z i.ledger.queue a.root (record { size = a.size; version = i.ledger.setting.version }) k.old.blocks.items
plan_of g i a k z set same is = subst (λ (x : Setting). Planned (g.S.Store.seen i.store) z i.ledger.queue a.root (record { size = a.size; version = x.version }) k.old.blocks.items) same (rw (k.old.has) at is)

pub commit_store-failed-requires-clause-planned : goal.commit_store-failed-requires-clause-planned
commit_store-failed-requires-clause-planned g c =
    let i = c.self.inside in
    let s = g.S.Store.seen i.store in
    let z = g.S.Store.seen c.prepare_entry.new.store in
    let k = ready g i c.args.add c.self.invariant.0 (admitted_is c.self.inside.history c.self.inside.first c.self.inside.ledger c.self.inside.space (g.S.Store.seen c.self.inside.store) (g.S.Store.both c.self.inside.store) c.args.who.session c.self.invariant.0 c.self.invariant.2 c.args.add (rw (← c.self.view_is) at c.requires.add)) (rw (← c.self.view_is) at c.requires.going) (rw (← c.self.view_is) at c.requires.number) in
    let p = plan_of g i c.args.add k z c.setting.result c.setting.ensures c.in-Ok.ensures.planned in
    let B = g.S.Store.both i.store in
    let H = g.S.Store.held i.store in (
      entry i.history i.first i.ledger i.ledger i.space i.space s z z B (g.S.Store.both c.prepare_entry.new.store) B H (g.S.Store.held c.prepare_entry.new.store) H c.args.who c.self.invariant.0 c.self.invariant.1 c.args.add k.old k.going k.number p c.in-Ok.ensures.both c.in-Ok.ensures.held,
      planned i.history i.first i.ledger i.ledger i.space i.space s z z B (g.S.Store.both c.prepare_entry.new.store) B H (g.S.Store.held c.prepare_entry.new.store) H c.args.who c.self.invariant.0 c.self.invariant.1 c.args.add k.old k.going k.number p c.in-Ok.ensures.both c.in-Ok.ensures.held,
      can_write i.history i.first i.ledger i.ledger i.space i.space s z z B (g.S.Store.both c.prepare_entry.new.store) B H (g.S.Store.held c.prepare_entry.new.store) H c.args.who c.self.invariant.0 c.self.invariant.1 c.args.add k.old k.going k.number p c.in-Ok.ensures.both c.in-Ok.ensures.held,
      is_there i.history i.first i.ledger i.ledger i.space i.space s z z B (g.S.Store.both c.prepare_entry.new.store) B H (g.S.Store.held c.prepare_entry.new.store) H c.args.who c.self.invariant.0 c.self.invariant.1 c.args.add k.old k.going k.number p c.in-Ok.ensures.both c.in-Ok.ensures.held (put_is i.history i.first i.ledger i.space s B c.args.who.session c.self.invariant.0 c.self.invariant.2 c.args.add (rw (← c.self.view_is) at c.requires.add) (rw (← c.self.view_is) at c.requires.put)),
      taken_free i.history i.first i.ledger i.ledger i.space i.space s z z B (g.S.Store.both c.prepare_entry.new.store) B H (g.S.Store.held c.prepare_entry.new.store) H c.args.who c.self.invariant.0 c.self.invariant.1 c.args.add k.old k.going k.number p c.in-Ok.ensures.both c.in-Ok.ensures.held,
    )

pub settled-requires : goal.settled-requires
settled-requires g c =
    let i = c.self.inside in
    let s = g.S.Store.seen i.store in
    let k = ready g i c.args.add c.self.invariant.0 (admitted_is c.self.inside.history c.self.inside.first c.self.inside.ledger c.self.inside.space (g.S.Store.seen c.self.inside.store) (g.S.Store.both c.self.inside.store) c.args.who.session c.self.invariant.0 c.self.invariant.2 c.args.add (rw (← c.self.view_is) at c.requires.add)) (rw (← c.self.view_is) at c.requires.going) (rw (← c.self.view_is) at c.requires.number) in
    (i.ledger, may i.history i.first i.ledger i.ledger i.space i.space s s s (g.S.Store.both i.store) (g.S.Store.both i.store) (g.S.Store.both i.store) (g.S.Store.held i.store) (g.S.Store.held i.store) (g.S.Store.held i.store) c.args.who c.self.invariant.0 c.self.invariant.1 c.args.add k.old k.going k.number, c.in-Ok.ensures.ledger)

done : (g : Over) (c : After-drop-purged g) → CallDone c.self.inside.history c.note.new.history c.self.inside.first c.self.inside.ledger c.settled.new.self c.self.inside.space c.hand_over.new.space (g.S.Store.seen c.prepare_entry.new.store) (g.S.Store.seen c.commit_store-failed.new.store) (g.S.Store.both c.commit_store-failed.new.store) c.args.who (Settle c.args.add.root) (Some (device_reply Published c.commit_store-failed.result))
done g c =
    let i = c.self.inside in
    let s = g.S.Store.seen i.store in
    let z = g.S.Store.seen c.prepare_entry.new.store in
    let w = g.S.Store.seen c.commit_store-failed.new.store in
    let k = ready g i c.args.add c.self.invariant.0 (admitted_is c.self.inside.history c.self.inside.first c.self.inside.ledger c.self.inside.space (g.S.Store.seen c.self.inside.store) (g.S.Store.both c.self.inside.store) c.args.who.session c.self.invariant.0 c.self.invariant.2 c.args.add (rw (← c.self.view_is) at c.requires.add)) (rw (← c.self.view_is) at c.requires.going) (rw (← c.self.view_is) at c.requires.number) in
    let p = plan_of g i c.args.add k z c.setting.result c.setting.ensures c.in-Ok.ensures.planned in
    let B = g.S.Store.both i.store in
    let M = g.S.Store.both c.prepare_entry.new.store in
    let N = g.S.Store.both c.commit_store-failed.new.store in
    let H = g.S.Store.held i.store in
    let I = g.S.Store.held c.prepare_entry.new.store in
    let J = g.S.Store.held c.commit_store-failed.new.store in
    let its = may i.history i.first i.ledger i.ledger i.space i.space s s s B B B H H H c.args.who c.self.invariant.0 c.self.invariant.1 c.args.add k.old k.going k.number in
    let is = planned i.history i.first i.ledger i.ledger i.space i.space s z w B M N H I J c.args.who c.self.invariant.0 c.self.invariant.1 c.args.add k.old k.going k.number p c.in-Ok.ensures.both c.in-Ok.ensures.held in
    let spare = (rw (← c.self.view_is) at c.requires.spare) in
    publish_call i.history i.first i.ledger c.settled.new.self i.space c.hand_over.new.space s z w B M N H I J c.args.who c.self.invariant.0 c.self.invariant.1 c.args.add k.old k.going k.number p c.in-Ok.ensures.both c.in-Ok.ensures.held
    (handed_claims c.prepare_entry.new.space c.hand_over.new.space c.args.add.root _ c.commit_store-failed.result c.hand_over.ensures.done c.hand_over.ensures.kept ∙ ap (λ (x : Owned). x.claims) c.in-Ok.ensures.space)
    (g.met.S.Store.counted c.commit_store-failed.new.store) (g.met.S.Store.both_holds c.commit_store-failed.new.store) (omega (arith, spare)) c.commit_store-failed.result c.note.new.history
    (rw (c.device_reply-reply.ensures, c.calls.ensures) at c.note.ensures) (c.settled.ensures i.ledger its c.in-Ok.ensures.ledger) (rw is at c.commit_store-failed.ensures.enters)

spaced : (g : Over) (c : After-drop-purged g) → Spaced c.settled.new.self c.hand_over.new.space (g.S.Store.seen c.commit_store-failed.new.store) (g.S.Store.held c.commit_store-failed.new.store)
spaced g c =
    let i = c.self.inside in
    let s = g.S.Store.seen i.store in
    let z = g.S.Store.seen c.prepare_entry.new.store in
    let w = g.S.Store.seen c.commit_store-failed.new.store in
    let k = ready g i c.args.add c.self.invariant.0 (admitted_is c.self.inside.history c.self.inside.first c.self.inside.ledger c.self.inside.space (g.S.Store.seen c.self.inside.store) (g.S.Store.both c.self.inside.store) c.args.who.session c.self.invariant.0 c.self.invariant.2 c.args.add (rw (← c.self.view_is) at c.requires.add)) (rw (← c.self.view_is) at c.requires.going) (rw (← c.self.view_is) at c.requires.number) in
    let p = plan_of g i c.args.add k z c.setting.result c.setting.ensures c.in-Ok.ensures.planned in
    let B = g.S.Store.both i.store in
    let M = g.S.Store.both c.prepare_entry.new.store in
    let N = g.S.Store.both c.commit_store-failed.new.store in
    let H = g.S.Store.held i.store in
    let I = g.S.Store.held c.prepare_entry.new.store in
    let J = g.S.Store.held c.commit_store-failed.new.store in
    let its = may i.history i.first i.ledger i.ledger i.space i.space s s s B B B H H H c.args.who c.self.invariant.0 c.self.invariant.1 c.args.add k.old k.going k.number in
    let is = planned i.history i.first i.ledger i.ledger i.space i.space s z w B M N H I J c.args.who c.self.invariant.0 c.self.invariant.1 c.args.add k.old k.going k.number p c.in-Ok.ensures.both c.in-Ok.ensures.held in
    let enters = rw is at c.commit_store-failed.ensures.enters in
    let placed = rw is at c.commit_store-failed.ensures.placed in
    let nodes = rw is at c.commit_store-failed.ensures.nodes in
    let held = rw is at c.commit_store-failed.ensures.held in
    let are = are_taken i.history i.first i.ledger i.ledger i.space i.space s s B H H c.args.who c.self.invariant.0 c.self.invariant.1 k.going c.in-Ok.purged.items i.ledger.queue c.in-Ok.ensures.blocks refl in
    let over = rw (c.deref.ensures.value) at c.hand_over.ensures.done in
    let unspared = λ (bs : List ℕ) (h : Handed c.prepare_entry.new.space c.hand_over.new.space c.args.add.root bs). handed_spare i.space c.hand_over.new.space c.prepare_entry.new.space.spare c.args.add.root bs (subst (λ (o : Owned). Handed o c.hand_over.new.space c.args.add.root bs) c.in-Ok.ensures.space h) in
    publish_spaced i.history i.first i.ledger c.settled.new.self i.space c.hand_over.new.space s z w B M N H I J c.args.who c.self.invariant.0 c.self.invariant.1 c.args.add k.old k.going k.number p c.in-Ok.ensures.both c.in-Ok.ensures.held
    c.commit_store-failed.result (c.settled.ensures i.ledger its c.in-Ok.ensures.ledger) enters.moves.geometry placed nodes c.commit_store-failed.ensures.kept held c.in-Ok.purged.items are
    (λ ok. unspared c.in-Ok.purged.items (over ok)) (λ f failed. unspared [] (c.hand_over.ensures.kept f failed))

pub invariant_of-self-2 : goal.invariant_of-self-2
invariant_of-self-2 g c =
    let i = c.self.inside in
    let s = g.S.Store.seen i.store in
    let z = g.S.Store.seen c.prepare_entry.new.store in
    let e = c.commit_store-failed in
    let w = g.S.Store.seen e.new.store in
    let B = g.S.Store.both i.store in
    let f = c.hand_over in
    let a = c.args.add in
    let k = ready g i a c.self.invariant.0 (admitted_is i.history i.first i.ledger i.space s (g.S.Store.both i.store) c.args.who.session c.self.invariant.0 c.self.invariant.2 a (rw (← c.self.view_is) at c.requires.add)) (rw (← c.self.view_is) at c.requires.going) (rw (← c.self.view_is) at c.requires.number) in
    let p = plan_of g i a k z c.setting.result c.setting.ensures c.in-Ok.ensures.planned in
    let is = ap (λ (x : Stored). x.planned) p.is in
    let H = g.S.Store.held i.store in
    let its = may i.history i.first i.ledger i.ledger i.space i.space s s s B B B H H H c.args.who c.self.invariant.0 c.self.invariant.1 a k.old k.going k.number in
    let enters = rw is at e.ensures.enters in (
      (done g c).kept,
      spaced g c,
      ordered_ends i.history i.first i.ledger i.space s (g.S.Store.both i.store) c.args.who.session c.self.invariant.0 c.self.invariant.2 c.note.new.history f.new.space w c.args.who (Settle a.root) (device_reply Published e.result) w.calls (record { root = a.root; size = a.size; admitted = true; puts = a.put }) refl (rw (← c.self.view_is) at c.requires.add)
          (rw (c.device_reply-reply.ensures, c.calls.ensures) at c.note.ensures) (enters.moves.geometry ∙ ap (λ (x : Stored). x.geometry) p.is) refl
          (located_publish i.history.history s w c.args.who a.root w.calls e.result k.old.blocks.items i.ledger.queue (enters.moves.geometry ∙ ap (λ (x : Stored). x.geometry) p.is) (enters.moves.began ∙ ap (λ (x : Stored). x.began) p.is)
          (subst (λ (x : Stored). Grows x.told w.told (λ d more. SameData x.geometry d more)) p.is e.ensures.same) c.self.invariant.2.puts (c.self.invariant.1.exactly k.going).sole
          (publish_placed i.history i.first i.ledger i.ledger i.space i.space s z w B (g.S.Store.both c.prepare_entry.new.store) B H (g.S.Store.held c.prepare_entry.new.store) H c.args.who c.self.invariant.0 c.self.invariant.1 a k.old k.going k.number p c.in-Ok.ensures.both c.in-Ok.ensures.held e.result (rw is at e.ensures.placed))
          (λ f failed. (e.ensures.kept f failed).0 ∙ ap (λ (x : Stored). x.placed) p.is)
          (put_wrote i.history i.first i.ledger i.space s B c.args.who.session c.self.invariant.0 c.self.invariant.2 a (rw (← c.self.view_is) at c.requires.add) (rw (← c.self.view_is) at c.requires.put).all k.old.blocks k.old.has) c.self.invariant.2.located)
          (keeps_publish i.history.history s w c.args.who a.root w.calls e.result k.old.blocks.items i.ledger.queue (enters.moves.geometry ∙ ap (λ (x : Stored). x.geometry) p.is)
          (subst (λ (x : Stored). Grows x.told w.told (λ d more. SameData x.geometry d more)) p.is e.ensures.same) c.self.invariant.2.puts (c.self.invariant.1.exactly k.going).sole
          (publish_placed i.history i.first i.ledger i.ledger i.space i.space s z w B (g.S.Store.both c.prepare_entry.new.store) B H (g.S.Store.held c.prepare_entry.new.store) H c.args.who c.self.invariant.0 c.self.invariant.1 a k.old k.going k.number p c.in-Ok.ensures.both c.in-Ok.ensures.held e.result (rw is at e.ensures.placed))
          (λ f failed. (e.ensures.kept f failed).0 ∙ ap (λ (x : Stored). x.placed) p.is)
          (put_wrote i.history i.first i.ledger i.space s B c.args.who.session c.self.invariant.0 c.self.invariant.2 a (rw (← c.self.view_is) at c.requires.add) (rw (← c.self.view_is) at c.requires.put).all k.old.blocks k.old.has) c.self.invariant.2.contents)
          (λ w. w.0) refl
          (handed_adds c.prepare_entry.new.space f.new.space a.root _ e.result f.ensures.done f.ensures.kept ∙ ap (λ (x : Owned). without x.adds a.root) c.in-Ok.ensures.space)
          (handed_nodes c.prepare_entry.new.space f.new.space a.root _ e.result f.ensures.done f.ensures.kept ∙ ap (λ (x : Owned). without x.nodes a.root) c.in-Ok.ensures.space)
          (subst (λ (x : Stored). Grows x.told w.told (λ d more. SameData x.geometry d more)) p.is e.ensures.same),
      sound_publish i.history c.note.new.history i.ledger c.settled.new.self s w _ _ c.args.who a.root a.size k.old.blocks.items e.result w.calls (rw (c.device_reply-reply.ensures, c.calls.ensures) at c.note.ensures) (enters.moves.geometry ∙ ap (λ (x : Stored). x.geometry) p.is)
          (subst (λ (x : Stored). Grows x.told w.told (λ d more. SameData x.geometry d more)) p.is e.ensures.same) c.self.invariant.0.accounts k.going
          (map_is_sole i.history i.first i.ledger i.ledger i.space i.space s s B H H c.args.who c.self.invariant.0 c.self.invariant.1 k.going) (c.self.invariant.1.exactly k.going).sole
          (tabled_add i.history i.first i.ledger s B c.self.invariant.0 a.root a.size k.old.under_way) (c.settled.ensures i.ledger its c.in-Ok.ensures.ledger)
          (publish_placed i.history i.first i.ledger i.ledger i.space i.space s z w B (g.S.Store.both c.prepare_entry.new.store) B H (g.S.Store.held c.prepare_entry.new.store) H c.args.who c.self.invariant.0 c.self.invariant.1 a k.old k.going k.number p c.in-Ok.ensures.both c.in-Ok.ensures.held e.result (rw is at e.ensures.placed))
          (λ f failed. (e.ensures.kept f failed).0 ∙ ap (λ (x : Stored). x.placed) p.is)
          (whole_blob i.history i.first i.ledger i.ledger i.space i.space s s s B B B H H H c.args.who c.self.invariant.0 c.self.invariant.1 a k.old k.going k.number (put_is i.history i.first i.ledger i.space s B c.args.who.session c.self.invariant.0 c.self.invariant.2 a (rw (← c.self.view_is) at c.requires.add) (rw (← c.self.view_is) at c.requires.put))) c.self.invariant.3,
    )

pub returns-clause-row : goal.returns-clause-row
returns-clause-row g c =
    let i = c.self.inside in
    let k = ready g i c.args.add c.self.invariant.0 (admitted_is c.self.inside.history c.self.inside.first c.self.inside.ledger c.self.inside.space (g.S.Store.seen c.self.inside.store) (g.S.Store.both c.self.inside.store) c.args.who.session c.self.invariant.0 c.self.invariant.2 c.args.add (rw (← c.self.view_is) at c.requires.add)) (rw (← c.self.view_is) at c.requires.going) (rw (← c.self.view_is) at c.requires.number) in
    let p = plan_of g i c.args.add k (g.S.Store.seen c.prepare_entry.new.store) c.setting.result c.setting.ensures c.in-Ok.ensures.planned in
    rw (← c.self.view_is, c.settle_answer.ensures)
    (subst (λ (v : Seen). Does v (seen_of c.note.new.history i.first c.settled.new.self c.hand_over.new.space (g.S.Store.seen c.commit_store-failed.new.store)) c.args.who (Settle c.args.add.root) (Some (device_reply Published c.commit_store-failed.result)))
    (ap (λ (x : Stored). seen_of i.history i.first i.ledger i.space x) p.is) (done g c).does)

pub returns-clause-ring : goal.returns-clause-ring
returns-clause-ring g c =
    let i = c.self.inside in
    let k = ready g i c.args.add c.self.invariant.0 (admitted_is c.self.inside.history c.self.inside.first c.self.inside.ledger c.self.inside.space (g.S.Store.seen c.self.inside.store) (g.S.Store.both c.self.inside.store) c.args.who.session c.self.invariant.0 c.self.invariant.2 c.args.add (rw (← c.self.view_is) at c.requires.add)) (rw (← c.self.view_is) at c.requires.going) (rw (← c.self.view_is) at c.requires.number) in
    let p = plan_of g i c.args.add k (g.S.Store.seen c.prepare_entry.new.store) c.setting.result c.setting.ensures c.in-Ok.ensures.planned in
    rw (← c.self.view_is)
    (ring_settled c.settle_answer.result c.commit_store-failed.result (g.S.Store.seen i.store) (g.S.Store.seen c.commit_store-failed.new.store) c.settle_answer.ensures
    (λ none. subst (λ (x : Stored). RingFalls x (g.S.Store.seen c.commit_store-failed.new.store)) p.is (c.commit_store-failed.ensures.ring none)))

pub returns-clause-crash : goal.returns-clause-crash
returns-clause-crash g c = (done g c).safe

pub prepare_entry-requires-clause-has : goal.prepare_entry-requires-clause-has
prepare_entry-requires-clause-has g c =
    let i = c.self.inside in
    let s = g.S.Store.seen i.store in
    let k = ready g i c.args.add c.self.invariant.0 (admitted_is i.history i.first i.ledger i.space s (g.S.Store.both i.store) c.args.who.session c.self.invariant.0 c.self.invariant.2 c.args.add (rw (← c.self.view_is) at c.requires.add)) (rw (← c.self.view_is) at c.requires.going) (rw (← c.self.view_is) at c.requires.number) in
    ap (λ (x : Option (Vec ℕ)). is_some x) k.old.has

pub commit_store-failed-requires-clause-number : goal.commit_store-failed-requires-clause-number
commit_store-failed-requires-clause-number g c =
    let i = c.self.inside in
    let s = g.S.Store.seen i.store in
    let z = g.S.Store.seen c.prepare_entry.new.store in
    let k = ready g i c.args.add c.self.invariant.0 (admitted_is i.history i.first i.ledger i.space s (g.S.Store.both i.store) c.args.who.session c.self.invariant.0 c.self.invariant.2 c.args.add (rw (← c.self.view_is) at c.requires.add)) (rw (← c.self.view_is) at c.requires.going) (rw (← c.self.view_is) at c.requires.number) in
    let p = plan_of g i c.args.add k z c.setting.result c.setting.ensures c.in-Ok.ensures.planned in
    omega (arith, k.number, ap (λ (x : Stored). x.number) p.is, c.self.invariant.0.number k.going)
