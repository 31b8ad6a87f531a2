use Rattle.std.proofs.Common.{◌≡◌, ◌≤◌, ◌*◌, ◌-◌, ◌^◌}
use Rattle.bv_model.proofs.Openings.{blocks_to}
use Rattle.bv_model.proofs.room.opening_blocks.Given as goal

abbrev pub invariant-loop-i : goal.invariant-loop-i
invariant-loop-i l = record {
  value : l.all ≡ blocks_to l.h.history.opening l.i;
  bound : l.all ≤ l.i * (2 ^ 64 - 1);
}
