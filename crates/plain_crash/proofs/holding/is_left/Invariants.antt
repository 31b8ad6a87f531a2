-- No smaller count does.
use Rattle.std.proofs.Common.{ℕ, ◌<◌}
use Rattle.plain_crash.specs.Holding.{IsLeftAt}
use Rattle.plain_crash.proofs.holding.is_left.Given as goal

abbrev pub invariant-loop-count : goal.invariant-loop-count
invariant-loop-count l = (k : ℕ) → k < l.count → ¬ IsLeftAt l.h.history l.calls l.held.entries k
