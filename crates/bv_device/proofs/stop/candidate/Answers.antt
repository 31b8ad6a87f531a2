use Rattle.std.proofs.Common.{◌≡◌, ◌∙◌, List, sym, ap, [], drop, arith}
use Rattle.std.proofs.lemmas.List.{drop_all}
use Rattle.spec_disk.specs.declared.event.Event.{Event}
use Rattle.spec_disk.specs.Images.{written_to}
use Rattle.bv_device.proofs.StopLemmas.{pick, pick-nth_or_last, pick-taken, pick-over, pick-elsewhere, pick-sync}
use Rattle.bv_device.proofs.stop.candidate.Goals as goal
use Rattle.bv_device.proofs.stop.candidate.Goals.{in-Write+then-place-at+then-left-gt0, in-Write+else-place-at, else-place-at-via-then-place-at+else-left-gt0, else-place-at-via-else-place-at, in_default}

pub loop-event-preserved : goal.loop-event-preserved
loop-event-preserved c = elim c.match-event.branch [
  | in-Write+then-place-at+then-left-gt0 w ↦ rw (w.found-is, w.left-is)
      (pick-taken c.args.at c.args.since.now c.loop-event.event-index _ _ _ w.in-Write.ok c.loop-event.found.now c.loop-event.left (omega arith) w.in-Write.is w.if-place-at.true w.if-left-gt0.true ∙ c.loop-event.invariant)
  | in-Write+else-place-at w ↦ elim w.else-place-at.branch [
    | else-place-at-via-then-place-at+else-left-gt0 v ↦ rw (w.found-is, w.left-is)
        (pick-over c.args.at c.args.since.now c.loop-event.event-index c.loop-event.found.now c.loop-event.left (omega arith) ∙ c.loop-event.invariant)
    | else-place-at-via-else-place-at v ↦ rw (w.found-is, w.left-is)
        (pick-elsewhere c.args.at c.args.since.now c.loop-event.event-index _ _ _ _ c.loop-event.found.now c.loop-event.left (omega arith) w.in-Write.is v.if-place-at.false ∙ c.loop-event.invariant)
  ]
  | in_default w ↦ rw (w.found-is, w.left-is)
      (pick-sync c.args.at c.args.since.now c.loop-event.event-index _ _ c.loop-event.found.now c.loop-event.left (omega arith) w.in_default.is ∙ c.loop-event.invariant)
]

pub returns : goal.returns
returns c =
    let over : drop c.loop-event.event-index c.args.since.now ≡ [] = drop_all c.loop-event.event-index c.args.since.now (omega arith) in
    sym (ap (λ (p : List Event). pick c.loop-event.found.now (written_to c.args.at p) c.loop-event.left) over)
    ∙ c.loop-event.invariant ∙ pick-nth_or_last c.args.synced.now (written_to c.args.at c.args.since.now) c.args.n
