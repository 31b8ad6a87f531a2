-- The changes that are left make the map from the one so far.
use Rattle.std.proofs.Common.{◌≡◌, drop}
use Rattle.spec_core.specs.Log.{changed}
use Rattle.spec_crash.specs.Crash as C
use Rattle.plain_crash.proofs.holding.map_after.Given as goal

abbrev pub invariant-loop-change : goal.invariant-loop-change
invariant-loop-change l =
    changed l.map.entries (drop l.change-index l.change-items) ≡ C.map_after l.h.history l.count
