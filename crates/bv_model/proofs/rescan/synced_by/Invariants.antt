use Rattle.std.proofs.Common.{◌≡◌, ◌≤◌, ℕ, length}
use Rattle.bv_model.proofs.Durable.{synced_from}
use Rattle.bv_model.specs.Rescan.{state_at}
use Rattle.spec_core.specs.Synced.{synced_by}
use Rattle.bv_model.proofs.rescan.synced_by.Given as goal

abbrev pub invariant-loop-i : goal.invariant-loop-i
invariant-loop-i l = record {
  synced : (next : ℕ) → synced_from l.h.history next l.calls (length (state_at l.h.history next l.count).log) l.i ≡ synced_by l.h.history l.calls;
  within : l.count ≤ l.i;
}
