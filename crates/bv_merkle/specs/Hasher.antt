-- What a hasher of a root holds: the bytes that it has taken.
--
-- It keeps one block of digests for each level: the last one, which may have free places, zero.
use Rattle.std.specs.Prelude.{◌≡◌, ℕ, zero, suc, ◌+◌, ◌-◌, ◌*◌, ◌/◌, ◌<◌, List, [], ◌∷◌, ◌++◌, length, map, take, drop, replicate, slice_index_or, slice_set, Option, Some, None}
use Rattle.std.specs.Option.{option_map}
use Rattle.spec_tree.specs.declared.Digest.{Digest}
use Rattle.spec_tree.specs.Tree.{block_digest, digest_block, level_above}
use Rattle.bv_merkle.specs.declared.hasher.RootHasher.{RootHasher}
use Rattle.bv_merkle.specs.TreeShape.{put_block, BeginsWith}
use Rattle.bv_merkle.specs.Levels.{all_blocks, data_digests, whole_above, whole_blocks}

-- the block of digests at a level
abbrev pub block_at : RootHasher → ℕ → List ℕ
block_at hasher level = slice_index_or hasher.blocks level []

-- a block with a digest at its place; the first one begins a new block
abbrev pub with_digest : List ℕ → ℕ → List ℕ → List ℕ
with_digest block zero digest = digest ++ replicate (8192 - 32) 0
with_digest block (suc place) digest =
    take (32 * suc place) block ++ digest ++ drop (32 * suc place + 32) block

-- the hasher with a digest put into its level's block
abbrev pub put_at : RootHasher → ℕ → ℕ → Digest → RootHasher
put_at hasher level place digest = record hasher {
  blocks = slice_set hasher.blocks level (with_digest (block_at hasher level) place digest.0);
}

-- the hasher after its level's block was kept, where it keeps blocks
abbrev pub keep_at : RootHasher → ℕ → ℕ → RootHasher
keep_at hasher level index = record hasher {
  kept = option_map (λ levels. put_block levels level index (block_at hasher level)) hasher.kept;
}

-- where the hasher keeps blocks, it keeps these of a level
abbrev pub KeepsOf : Option (List (List (List ℕ))) → ℕ → List (List ℕ) → Type 0
KeepsOf None level blocks = Unit {0}
KeepsOf (Some levels) level blocks = BeginsWith levels level blocks

-- how many blocks each level has, where the hasher keeps blocks
abbrev pub shape_of : RootHasher → Option (List ℕ)
shape_of hasher = option_map (λ levels. map (λ blocks. length blocks) levels) hasher.kept

-- a digest has 32 bytes
abbrev pub IsDigest : Digest → Type 0
IsDigest digest = length digest.0 ≡ 32

-- so have all of these
abbrev pub AreDigests : List Digest → Type 0
AreDigests [] = Unit {0}
AreDigests (digest ∷ digests) = IsDigest digest × AreDigests digests

-- these are the digests of a level so far
pub record StandsAt (hasher : RootHasher) (level : ℕ) (digests : List Digest) : Type 0 where
  pub sized : AreDigests digests
  pub last : 0 < length digests
      → block_at hasher level ≡ digest_block digests ((length digests - 1) / 256)
  pub kept : KeepsOf hasher.kept level (whole_blocks digests)

-- these are the digests of a level so far, and in each of the levels above, so many in all, stand
-- the digests of the whole blocks below
abbrev pub Stands : RootHasher → ℕ → ℕ → List Digest → Type 0
Stands hasher zero level digests = Unit {0}
Stands hasher (suc more) level digests =
    StandsAt hasher level digests × Stands hasher more (level + 1) (whole_above (level + 1) digests)

-- a level with these digests is closed: all its blocks are kept, the digests of all of them stand
-- in the level above, and this is the last of them
pub record Closes (hasher : RootHasher) (level : ℕ) (digests : List Digest) (last : Digest)
    : Type 0 where
  pub above : Stands hasher (6 - level) (level + 1) (level_above (level + 1) digests)
  pub last_is : let block = (length digests - 1) / 256 in
      last ≡ block_digest (level + 1) (8192 * block) (digest_block digests block)
  pub kept : KeepsOf hasher.kept level (all_blocks digests)

-- how many bytes the hasher has taken
abbrev pub taken : RootHasher → ℕ
taken hasher = hasher.taken

-- the hasher has taken these bytes
unfoldable pub Holds : RootHasher → List ℕ → Type 0
Holds hasher bytes = (hasher.taken ≡ length bytes) × Stands hasher 7 0 (data_digests bytes)
