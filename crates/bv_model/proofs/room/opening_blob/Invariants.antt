use Rattle.std.proofs.Common.{◌≡◌}
use Rattle.bv_model.proofs.Openings.{found_from}
use Rattle.bv_model.proofs.room.opening_blob.Given as goal

abbrev pub invariant-loop-i : goal.invariant-loop-i
invariant-loop-i l = found_from l.h.history.opening 0 l.root ≡ found_from l.h.history.opening l.i l.root
