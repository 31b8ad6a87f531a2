-- The blocks of a blob as they are written (this project's profile).
--
-- | version | a blob's blocks, in the order of its extents                                    |
-- |--------:|---------------------------------------------------------------------------------|
-- |       1 | the blocks of level 1, of level 2 and so on, then the data                      |
-- |       2 | the data, then the digests of all levels but the highest, joined                |
--
-- Zeros fill the last block of the data, in version 1 that of each level, in version 2 that of the
-- digests.
use Rattle.std.specs.Prelude.{◌≡◌, ℕ, List, ◌++◌, length, map, if◌then◌else◌, ◌==◌}
use Rattle.std.specs.List.{range_with_len, flat_map}
use Rattle.spec_tree.specs.declared.Digest.{Digest}
use Rattle.spec_tree.specs.Tree.{level_of, levels_of, data_blocks, piece, filled, root_of}
use Rattle.bv_merkle.specs.Built.{tree_levels}
use Rattle.bv_merkle.specs.Levels.{all_blocks}

-- the data blocks of these bytes
abbrev pub data_of : List ℕ → List (List ℕ)
data_of bytes = map (λ i. filled (piece bytes i)) (range_with_len 0 (data_blocks (length bytes)))

-- the blocks of digests and the data, in their order
abbrev pub placed : ℕ → List (List ℕ) → List (List ℕ) → List (List ℕ)
placed version tree content = if version == 2 then content ++ tree else tree ++ content

-- the bytes of digests, one after another
abbrev pub digest_bytes : List Digest → List ℕ
digest_bytes digests = flat_map (λ d. d.0) digests

-- the digests of all levels but the highest
abbrev pub digests_below : List ℕ → List Digest
digests_below bytes = flat_map (level_of bytes) (range_with_len 0 (levels_of (length bytes)))

-- the blocks of the tree
abbrev pub tree_blocks : ℕ → List ℕ → List (List ℕ)
tree_blocks version bytes =
    if version == 2 then all_blocks (digests_below bytes)
    else flat_map (λ blocks. blocks) (tree_levels bytes)

-- the blocks of a blob with these bytes, in the order of its extents
abbrev pub blob_blocks : ℕ → List ℕ → List (List ℕ)
blob_blocks version bytes = placed version (tree_blocks version bytes) (data_of bytes)

-- these are the blocks, tree and data in their order, of some bytes with this root and size
pub record IsBlobOf (version : ℕ) (root : Digest) (size : ℕ) (blocks : List (List ℕ)) : Type 0 where
  pub bytes : List ℕ
  pub root_is : root_of bytes ≡ root
  pub long : length bytes ≡ size
  pub blocks_are : blocks ≡ blob_blocks version bytes
