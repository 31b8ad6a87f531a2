use Rattle.std.proofs.Common.{IsSomeAnd, sym}
use Rattle.std.proofs.lemmas.List.{take_all}
use Rattle.std.proofs.lemmas.List.Elements.{All-more, All-same}
use Rattle.spec_core.specs.declared.event.CoreEvent.{CoreEvent}
use Rattle.spec_crash.specs.Timing.{event_at, IsWritten, IsOkWrite}
use Rattle.spec_disk.proofs.ProgramLemmas.{told_true, holds_at, fails_at}
use Rattle.plain_crash.proofs.timing.puts_are_writes.Goals as goal
use Rattle.plain_crash.proofs.timing.puts_are_writes.Goals.{else-is_written-via-then-is_written+else-not-is_ok_write_at, else-is_written-via-else-is_written}

pub loop-event-preserved : goal.loop-event-preserved
loop-event-preserved c =
    All-more (λ (e : CoreEvent). IsWritten e → IsSomeAnd (event_at c.args.events.now e.calls) IsOkWrite) c.args.history.now c.loop-event.event-index _ c.loop-event-test.true c.loop-event.invariant
    (elim c.else-is_written.branch [
      | else-is_written-via-then-is_written+else-not-is_ok_write_at w ↦
          λ written. holds_at w.is_ok_write_at.result _ w.is_ok_write_at.ensures w.if-not-is_ok_write_at.false
      | else-is_written-via-else-is_written w ↦
          λ written. absurd (fails_at c.is_written.result _ c.is_written.ensures w.if-is_written.false written)
    ])

pub returns : goal.returns
returns c =
    told_true _ (All-same (λ (e : CoreEvent). IsWritten e → IsSomeAnd (event_at c.args.events.now e.calls) IsOkWrite) c.args.history.now _ (sym (take_all c.loop-event.event-index c.args.history.now c.loop-event-test.false)) c.loop-event.invariant)
