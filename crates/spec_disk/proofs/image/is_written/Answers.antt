-- One event of the list, or those that are left after it.
use Rattle.spec_disk.proofs.ProgramLemmas.{told_true, holds_at, fails_at, left-here, left-later}
use Rattle.spec_disk.proofs.image.is_written.Goals as goal

pub returns-then-writes : goal.returns-then-writes
returns-then-writes c =
    let a = c.args in
    let here = holds_at c.writes.result _ c.writes.ensures c.if-writes.true in
    told_true _ (c.loop-event.invariant.0 (left-here a.at a.s a.since.now c.loop-event.event-index _ a.piece.now c.loop-event-test.true here))

pub loop-event-preserved : goal.loop-event-preserved
loop-event-preserved c =
    let a = c.args in
    let never = fails_at c.writes.result _ c.writes.ensures c.if-writes.false in
    let later = left-later a.at a.s a.since.now c.loop-event.event-index _ a.piece.now c.loop-event-test.true never in
    (λ h. c.loop-event.invariant.0 (later.0 h), λ h. later.1 (c.loop-event.invariant.1 h))
