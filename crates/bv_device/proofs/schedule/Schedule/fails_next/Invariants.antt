use Rattle.std.proofs.Common.{◌≡◌}
use Rattle.bv_device.proofs.ScheduleLemmas.{partly_later}
use Rattle.bv_device.proofs.schedule.Schedule.fails_next.Given as goal

-- the numbers so far are one call later, and the others as they were
abbrev pub invariant-loop-number : goal.invariant-loop-number
invariant-loop-number l = l.number-items ≡ partly_later l.number-index l.initial.number-items
