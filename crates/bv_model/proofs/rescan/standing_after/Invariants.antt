use Rattle.std.proofs.Common.{◌≡◌, ◌≤◌, ℕ}
use Rattle.spec_core.specs.History.{Legal}
use Rattle.bv_model.specs.Rescan.{state_at, standing_in}
use Rattle.bv_model.proofs.rescan.standing_after.Given as goal

abbrev pub invariant-loop-i : goal.invariant-loop-i
invariant-loop-i l = record {
  standing : (next : ℕ) → Legal l.h.history next → l.standing ≡ standing_in (state_at l.h.history next l.i) l.root;
  bound : l.standing.holders ≤ l.i;
}
