use Rattle.std.proofs.Common.{ℕ}
use Rattle.spec_core.specs.History.{Legal, setting_of}
use Rattle.bv_model.specs.Rescan.{state_at}
use Rattle.bv_model.specs.Taking.{Knows}
use Rattle.bv_model.proofs.room.known_after.Given as goal

abbrev pub invariant-loop-i : goal.invariant-loop-i
invariant-loop-i l = (next : ℕ) → Legal l.h.history next → Knows (setting_of l.h.history) (state_at l.h.history next l.i) l.root l.known
