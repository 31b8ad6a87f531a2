-- Where the blobs of some roots lie.
use Rattle.std.specs.Prelude.{ℕ, List, [], Option, Some, None}
use Rattle.std.specs.List.{flat_map}
use Rattle.spec_tree.specs.declared.Digest.{Digest}
use Rattle.spec_core.specs.State.{find}

-- the blocks where there are some
abbrev pub found : Option (List ℕ) → List ℕ
found None = []
found (Some blocks) = blocks

-- the blocks of the blobs of these roots, one after another
abbrev pub blocks_at : List (Digest × List ℕ) → List Digest → List ℕ
blocks_at placed roots = flat_map (λ r. found (find placed r)) roots
