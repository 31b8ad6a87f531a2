-- Each sector so far is a candidate.
use Rattle.std.proofs.Common.{ℕ, ◌<◌, ◌∷◌, map}
use Rattle.std.specs.List.{Contains}
use Rattle.spec_disk.specs.Disk.{sector}
use Rattle.spec_disk.specs.Images.{written_to}
use Rattle.spec_disk.proofs.image.is_block_left.Given as goal

abbrev pub invariant-loop-s : goal.invariant-loop-s
invariant-loop-s l =
    (s : ℕ) → s < l.s
    → Contains (map (λ w. sector w s) (l.fn.synced ∷ written_to l.fn.at l.fn.since)) (sector l.fn.block s)
