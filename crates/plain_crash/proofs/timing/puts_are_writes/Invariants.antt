-- The events so far keep it.
use Rattle.std.proofs.Common.{All, IsSomeAnd, take}
use Rattle.spec_crash.specs.Timing.{event_at, IsWritten, IsOkWrite}
use Rattle.plain_crash.proofs.timing.puts_are_writes.Given as goal

abbrev pub invariant-loop-event : goal.invariant-loop-event
invariant-loop-event l = All (λ e. IsWritten e → IsSomeAnd (event_at l.events e.calls) IsOkWrite) (take l.event-index l.history)
