-- The blocks of the levels of a tree that is kept.
use Rattle.std.specs.Prelude.{◌≡◌, ℕ, ◌<◌, List, [], length, map, slice_index_or, slice_set}
use Rattle.std.specs.List.{range_with_len}
use Rattle.spec_tree.specs.Tree.{digests_at, levels_of}

-- how many blocks the levels of a tree have
abbrev pub tree_shape : ℕ → List ℕ
tree_shape size = map (digests_at size) (range_with_len 1 (levels_of size))

-- the blocks of a level; level 1 stands first
abbrev pub row : List (List (List ℕ)) → ℕ → List (List ℕ)
row levels level = slice_index_or levels level []

-- these levels, with a block put into its place, where they have that place
abbrev pub put_block : List (List (List ℕ)) → ℕ → ℕ → List ℕ → List (List (List ℕ))
put_block levels level index block =
    slice_set levels level (slice_set (row levels level) index block)

-- in the places that the level has stand the first of these blocks
abbrev pub BeginsWith : List (List (List ℕ)) → ℕ → List (List ℕ) → Type 0
BeginsWith levels level blocks =
    (i : ℕ) → i < length blocks → i < length (row levels level)
    → slice_index_or (row levels level) i [] ≡ slice_index_or blocks i []
