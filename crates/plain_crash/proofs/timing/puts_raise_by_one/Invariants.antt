-- All events keep it exactly if those that are left do, with the one before them.
use Rattle.std.proofs.Common.{◌≡◌, ◌+◌}
use Rattle.spec_crash.specs.Timing.{IsWritten}
use Rattle.plain_crash.proofs.Nexts.{Left}
use Rattle.plain_crash.proofs.timing.puts_raise_by_one.Given as goal

abbrev pub invariant-loop-i : goal.invariant-loop-i
invariant-loop-i l = Left (λ old new. IsWritten new → new.calls ≡ old.calls + 1) l.events l.i
