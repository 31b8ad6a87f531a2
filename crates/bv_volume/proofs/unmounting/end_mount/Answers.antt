use Rattle.std.proofs.Common.{◌≡◌, ◌⊎◌, inl, ℕ, ◌++◌, ◌+◌, [], false, rules, List, Some, None, refl, ap, sym, ◌∙◌, subst, arith}
use Rattle.spec_tree.specs.declared.Digest.{Digest}
use Rattle.spec_core.specs.Choice.{is_empty}
use Rattle.spec_core.specs.Log.{purges}
use Rattle.bv_store.specs.Stored.{Stored, Grows, SameData, placed_without}
use Rattle.bv_volume.proofs.SessionCalls.{same_data}
use Rattle.bv_volume.specs.Wrote.{Lasts}
use Rattle.std.proofs.lemmas.Grind.{common_steps}
use Rattle.bv_volume.proofs.Joins.{nothing_there, planned_lasts}
use Rattle.bv_volume.proofs.Unmounts.{device_replies, refusal_replies, unmounts_device, unmounts_refused}
use Rattle.bv_volume.proofs.unmounting.end_mount.Goals as goal

pub returns-in-Some-clause-row : goal.returns-in-Some-clause-row
returns-in-Some-clause-row g c = λ t none is. rw (c.unmount_refusal.ensures, refusal_replies c.in-Some.refusal) (c.in-Some.ensures.refused t none is)

pub returns-in-Some-clause-wrote : goal.returns-in-Some-clause-wrote
returns-in-Some-clause-wrote g c =
    let s : Stored = g.S.Store.seen c.args.store.now in
    rw (c.unmount_refusal.ensures) (unmounts_refused c.args.ledger.now.stopped s s (g.S.Store.both c.args.store.now) (g.S.Store.both c.args.store.now) c.args.ledger.now.queue c.in-Some.refusal (record { planned = s.planned; is = refl; both = λ a b h. h }))

pub end_with_purges-failed-requires-clause-planned : goal.end_with_purges-failed-requires-clause-planned
end_with_purges-failed-requires-clause-planned g c =
    let z = g.S.Store.seen c.plan.new.self in
    (record { purged = c.queue-2.result.now; published = None }, ap (λ (x : Stored). x.planned) c.in-Ok.ensures.ok, tt, nothing_there z.geometry z.told, λ b has. absurd (omega (arith, has.1)))

pub returns-then-is_empty-clause-row : goal.returns-then-is_empty-clause-row
returns-then-is_empty-clause-row g c = λ t none is. rw (c.unmount_answer.ensures, device_replies c.end_without_purges-failed.result) (c.unmounted.ensures t none is)

pub returns-then-is_empty-clause-wrote : goal.returns-then-is_empty-clause-wrote
returns-then-is_empty-clause-wrote g c =
    let s = g.S.Store.seen c.args.store.now in
    let w = g.S.Store.seen c.end_without_purges-failed.new.store in
    let B = g.S.Store.both c.args.store.now in
    let N = g.S.Store.both c.end_without_purges-failed.new.store in
    let going : c.args.ledger.now.stopped ≡ None = search rules in
    let empty : c.args.ledger.now.queue ≡ [] = first_of (grind (arith, common_steps), grind (arith, common_steps, c.if-is_empty.ensures, c.if-is_empty.true, c.queue.ensures)) in
    let e = c.end_without_purges-failed.ensures in
    rw (c.unmount_answer.ensures) (unmounts_device c.args.ledger.now.stopped s w B N c.args.ledger.now.queue c.end_without_purges-failed.result (record {
      going = going;
      lasts = subst (λ (q : List Digest). Lasts s w B N (λ m. purges m q ++ []) c.end_without_purges-failed.result) (sym empty) e.lasts;
      number = λ ok. rw empty e.number;
      settled = e.settled;
    }))

pub returns-in-Err-clause-wrote : goal.returns-in-Err-clause-wrote
returns-in-Err-clause-wrote g c = record { planned = None; is = c.in-Err.ensures.err; both = c.in-Err.ensures.both }

pub returns-clause-row : goal.returns-clause-row
returns-clause-row g c = λ t none is. rw (c.unmount_answer-2.ensures, device_replies c.end_with_purges-failed.result) (c.unmounted-2.ensures t none is)

pub returns-clause-wrote : goal.returns-clause-wrote
returns-clause-wrote g c =
    let s = g.S.Store.seen c.args.store.now in
    let z = g.S.Store.seen c.plan.new.self in
    let w = g.S.Store.seen c.end_with_purges-failed.new.store in
    let B = g.S.Store.both c.args.store.now in
    let M = g.S.Store.both c.plan.new.self in
    let N = g.S.Store.both c.end_with_purges-failed.new.store in
    let going : c.args.ledger.now.stopped ≡ None = search rules in
    let full : is_empty c.args.ledger.now.queue ≡ false = search rules in
    let failed = c.end_with_purges-failed.result in
    let e = c.end_with_purges-failed.ensures in
    let lasts = rw (ap (λ (x : Stored). x.planned) c.in-Ok.ensures.ok) at e.lasts in
    rw (c.unmount_answer-2.ensures) (unmounts_device c.args.ledger.now.stopped s w B N c.args.ledger.now.queue failed (record {
      going = going;
      lasts = planned_lasts s z w B M N (λ m. purges m c.args.ledger.now.queue ++ []) failed (Some (record { purged = c.queue-2.result.now; published = None })) c.in-Ok.ensures.ok c.in-Ok.ensures.both
          (subst (λ (q : List Digest). Lasts z w M N (λ m. purges m q ++ []) failed) c.queue-2.ensures lasts);
      number = λ ok. rw full (e.number ok ∙ ap (λ (x : Stored). x.number + 1) c.in-Ok.ensures.ok);
      settled = e.settled;
    }))

pub returns-clause-same : goal.returns-clause-same
returns-clause-same g c =
    let s = g.S.Store.seen c.args.store.now in
    let z = g.S.Store.seen c.plan.new.self in
    let w = g.S.Store.seen c.end_with_purges-failed.new.store in
    subst (λ (x : Stored). Grows x.told w.told (λ d more. SameData x.geometry d more)) c.in-Ok.ensures.ok c.end_with_purges-failed.ensures.same

pub returns-clause-either : goal.returns-clause-either
returns-clause-either g c =
    let s = g.S.Store.seen c.args.store.now in
    let z = g.S.Store.seen c.plan.new.self in
    let w = g.S.Store.seen c.end_with_purges-failed.new.store in
    let is = ap (λ (x : Stored). x.planned) c.in-Ok.ensures.ok in
    let either : (w.placed ≡ z.placed) ⊎ (w.placed ≡ placed_without z.placed c.queue-2.result.now) = rw is at c.end_with_purges-failed.ensures.either in
    subst (λ (q : List Digest). (w.placed ≡ s.placed) ⊎ (w.placed ≡ placed_without s.placed q)) c.queue-2.ensures
    (subst (λ (ps : List (Digest × List ℕ)). (w.placed ≡ ps) ⊎ (w.placed ≡ placed_without ps c.queue-2.result.now)) (ap (λ (x : Stored). x.placed) c.in-Ok.ensures.ok) either)

pub returns-in-Some-clause-same : goal.returns-in-Some-clause-same
returns-in-Some-clause-same g c = let s = g.S.Store.seen c.args.store.now in same_data s.geometry s.told

pub returns-in-Err-clause-same : goal.returns-in-Err-clause-same
returns-in-Err-clause-same g c =
    let s = g.S.Store.seen c.args.store.now in
    subst (λ (x : Stored). Grows s.told x.told (λ d more. SameData s.geometry d more)) (sym c.in-Err.ensures.err) (same_data s.geometry s.told)

pub returns-in-Err-clause-either : goal.returns-in-Err-clause-either
returns-in-Err-clause-either g c = inl (ap (λ (x : Stored). x.placed) c.in-Err.ensures.err)
