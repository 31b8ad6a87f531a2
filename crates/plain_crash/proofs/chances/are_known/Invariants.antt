use Rattle.std.proofs.Common.{All, map, take}
use Rattle.plain_crash.specs.Placed.{placed_entry, IsKnown}
use Rattle.plain_crash.proofs.chances.are_known.Given as goal

-- every entry so far is known
abbrev pub invariant-loop-placed : goal.invariant-loop-placed
invariant-loop-placed l =
    All (λ p. IsKnown (map placed_entry l.synced) l.geometry l.image l.last (placed_entry p)) (take l.placed-index l.accepted)
