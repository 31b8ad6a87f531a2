-- What the function that hashes a window gives.
use Rattle.std.specs.Prelude.{◌≡◌, ℕ, ◌+◌, ◌*◌, ◌<◌, List, slice_get, Some}
use Rattle.spec_tree.specs.declared.Digest.{Digest}
use Rattle.spec_tree.specs.Tree.{block_digest, piece}

-- the first n digests are those of the pieces of the bytes, which begin at this offset of the data
abbrev pub HasDigestsOf : List Digest → ℕ → ℕ → List ℕ → Type 0
HasDigestsOf digests n offset bytes =
    (i : ℕ) → i < n
    → slice_get digests i ≡ Some (block_digest 0 (offset + 8192 * i) (piece bytes i))
