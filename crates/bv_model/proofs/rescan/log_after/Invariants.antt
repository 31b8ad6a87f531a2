use Rattle.std.proofs.Common.{◌≡◌, ◌≤◌, ◌+◌, ℕ}
use Rattle.bv_model.proofs.Lengths.{Follows}
use Rattle.spec_core.specs.History.{Legal}
use Rattle.bv_model.specs.Rescan.{state_at, in_all}
use Rattle.bv_model.proofs.rescan.log_after.Given as goal

abbrev pub invariant-loop-i : goal.invariant-loop-i
invariant-loop-i l = record {
  follows : (next : ℕ) → Legal l.h.history next → Follows (state_at l.h.history next l.i) l.lengths l.failed;
  bound : in_all l.lengths ≤ l.i;
  failed : l.failed ≤ l.i + 1;
  log : l.log ≡ l.lengths.log + l.failed;
}
