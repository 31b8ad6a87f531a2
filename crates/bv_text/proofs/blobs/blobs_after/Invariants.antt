-- The changes that are left make the map from the one so far.
use Rattle.std.proofs.Common.{◌≡◌, drop}
use Rattle.spec_core.specs.History.{log_of, opening_map}
use Rattle.spec_core.specs.Log.{changed}
use Rattle.bv_text.proofs.blobs.blobs_after.Given as goal

abbrev pub invariant-loop-change : goal.invariant-loop-change
invariant-loop-change l =
    changed l.blobs.entries (drop l.change-index l.log)
    ≡ changed (opening_map l.h.history) (log_of l.h.history)
