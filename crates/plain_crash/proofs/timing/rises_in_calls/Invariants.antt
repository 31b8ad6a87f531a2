-- All events keep it exactly if those that are left do, with the one before them.
use Rattle.std.proofs.Common.{◌<◌}
use Rattle.spec_crash.specs.Timing.{MayCall}
use Rattle.plain_crash.proofs.Nexts.{Left}
use Rattle.plain_crash.proofs.timing.rises_in_calls.Given as goal

abbrev pub invariant-loop-i : goal.invariant-loop-i
invariant-loop-i l = Left (λ old new. old.calls < new.calls → MayCall new.act) l.fn.h.history.events l.i
