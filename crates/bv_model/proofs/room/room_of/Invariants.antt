use Rattle.std.proofs.Common.{◌≤◌, ◌+◌, ◌*◌, ◌-◌, ◌^◌, ℕ}
use Rattle.bv_model.proofs.Rooms.{TakenOf}
use Rattle.spec_core.specs.History.{Legal, setting_of}
use Rattle.bv_model.specs.Rescan.{state_at}
use Rattle.bv_model.specs.Taking.{in_all}
use Rattle.bv_model.proofs.room.room_of.Given as goal

abbrev pub invariant-loop-i : goal.invariant-loop-i
invariant-loop-i l = record {
  taken : (next : ℕ) → Legal l.h.history next → TakenOf (setting_of l.h.history) (state_at l.h.history next l.i) l.taken;
  bound : in_all l.taken ≤ (2 ^ 63 + l.i) * (2 ^ 64 - 1);
}
