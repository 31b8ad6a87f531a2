-- Each sector of each block so far is a candidate.
use Rattle.std.proofs.Common.{ℕ, ◌<◌, ◌∷◌, map}
use Rattle.std.specs.List.{Contains}
use Rattle.spec_disk.specs.Disk.{block, sector}
use Rattle.spec_disk.specs.Images.{written_to}
use Rattle.spec_disk.proofs.image.are_blocks_left.Given as goal

abbrev pub invariant-loop-b : goal.invariant-loop-b
invariant-loop-b l =
    (b s : ℕ) → b < l.b
    → Contains (map (λ w. sector w s) (block l.fn.synced b ∷ written_to b l.fn.since)) (sector (block l.fn.image b) s)
