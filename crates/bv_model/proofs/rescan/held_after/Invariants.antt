use Rattle.std.proofs.Common.{◌≡◌, ℕ}
use Rattle.spec_core.specs.History.{Legal}
use Rattle.bv_model.specs.Rescan.{state_at}
use Rattle.spec_core.specs.State as S
use Rattle.bv_model.proofs.rescan.held_after.Given as goal

abbrev pub invariant-loop-i : goal.invariant-loop-i
invariant-loop-i l = (next : ℕ) → Legal l.h.history next → l.held ≡ S.held (state_at l.h.history next l.i).slots l.place
