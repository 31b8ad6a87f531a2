-- The events so far keep it.
use Rattle.std.proofs.Common.{All, IsSomeAnd, IsTrue, take}
use Rattle.spec_core.specs.Synced.{tells_durable}
use Rattle.spec_crash.specs.Timing.{event_at, IsOkSync}
use Rattle.plain_crash.proofs.timing.replies_are_syncs.Given as goal

abbrev pub invariant-loop-event : goal.invariant-loop-event
invariant-loop-event l = All (λ e. IsTrue (tells_durable e.reply) → IsSomeAnd (event_at l.events e.calls) IsOkSync) (take l.event-index l.history)
