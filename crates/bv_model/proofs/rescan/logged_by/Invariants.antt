use Rattle.std.proofs.Common.{◌≡◌, ℕ}
use Rattle.bv_model.proofs.Durable.{logged_from}
use Rattle.spec_core.specs.Synced.{logged_by}
use Rattle.bv_model.proofs.rescan.logged_by.Given as goal

abbrev pub invariant-loop-i : goal.invariant-loop-i
invariant-loop-i l = (next : ℕ) → logged_from l.h.history next l.calls l.i ≡ logged_by l.h.history l.calls
