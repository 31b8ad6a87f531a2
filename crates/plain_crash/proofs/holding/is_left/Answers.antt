use Rattle.std.proofs.Common.{ap, length, arith}
use Rattle.spec_crash.proofs.CarryLemmas.{log_length-within}
use Rattle.plain_crash.proofs.holding.is_left.Goals as goal

-- no count past the log is a boundary
pub returns : goal.returns
returns c = (
  λ e. cc,
  λ (count, left).
      absurd (c.loop-count.invariant count
      (omega (arith, c.loop-count-test.false, log_length-within c.args.h.now.history count left.2.0, ap length c.in_ok-logged.ensures.changes))
      left),
)
