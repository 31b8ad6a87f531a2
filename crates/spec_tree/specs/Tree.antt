-- The Merkle tree of a blob: the digests of its blocks, level above level, up to its root.
--
-- This is the project's profile of Fuchsia's Merkle roots. A block has 8192 bytes. Its digest is
-- SHA-256 (FIPS 180-4, by `sha2`'s own word) of four parts:
--
-- | part    |            bytes | value                                                  |
-- |---------|-----------------:|--------------------------------------------------------|
-- | place   |                8 | byte offset within the level OR level, little-endian   |
-- | length  |                4 | number of data bytes, little-endian                    |
-- | data    |        0 to 8192 | the block's bytes                                      |
-- | padding | the rest of 8192 | zeros                                                  |
--
-- At level 0 a block without data is hashed as the one block of the empty blob, whatever its
-- offset: place 0, length 0 and no padding, so twelve zero bytes.
use Rattle.std.specs.Prelude.{ℕ, zero, suc, ◌+◌, ◌-◌, ◌*◌, ◌==◌, nat_le, if◌then◌else◌, max, List, [], ◌∷◌, ◌++◌, length, take, drop, map, sum_by, replicate, bit_or}
use Rattle.std.specs.List.{range_with_len, flat_map}
use Rattle.std.specs.Int.{w32, w64, to_le_bytes, div_ceil}
use Rattle.sha2.specs.Sha256.{sha256}
use Rattle.spec_tree.specs.declared.Digest.{Digest}

-- ---- the digest of a block

-- bytes filled with zeros up to a whole block
abbrev pub filled : List ℕ → List ℕ
filled bytes = bytes ++ replicate (8192 - length bytes) 0

-- place and length, for so many bytes of data
abbrev pub heading : ℕ → ℕ → ℕ → List ℕ
heading level offset count = to_le_bytes w64 (bit_or offset level) ++ to_le_bytes w32 count

-- what is hashed of the block with these bytes, at a level and a byte offset within it
abbrev pub block_message : ℕ → ℕ → List ℕ → List ℕ
block_message zero _ [] = replicate 12 0
block_message level offset bytes = heading level offset (length bytes) ++ filled bytes

-- the digest of that block
unfoldable pub block_digest : ℕ → ℕ → List ℕ → Digest
block_digest level offset bytes = record { 0 = sha256 (block_message level offset bytes) }

-- ---- the levels and the root

-- the blocks that so many bytes of data take
abbrev pub data_blocks : ℕ → ℕ
data_blocks size = div_ceil size 8192

-- piece i of the data: the 8192 bytes from offset 8192 i on, or those that are left
abbrev pub piece : List ℕ → ℕ → List ℕ
piece bytes i = take 8192 (drop (8192 * i) bytes)

-- level 0: the digests of the pieces; no data is one empty piece
unfoldable pub level_0 : List ℕ → List Digest
level_0 bytes =
    let blocks = max 1 (data_blocks (length bytes)) in
    map (λ i. block_digest 0 (8192 * i) (piece bytes i)) (range_with_len 0 blocks)

-- block i of the level above: 256 digests, the unused places of the last block zero
abbrev pub digest_block : List Digest → ℕ → List ℕ
digest_block digests i = filled (flat_map (λ d. d.0) (take 256 (drop (256 * i) digests)))

-- the level above a list of digests, which has one digest for each 256 of them
unfoldable pub level_above : ℕ → List Digest → List Digest
level_above level digests =
    let blocks = div_ceil (length digests) 256 in
    map (λ i. block_digest level (8192 * i) (digest_block digests i)) (range_with_len 0 blocks)

-- the digests of a level
unfoldable pub level_of : List ℕ → ℕ → List Digest
level_of bytes zero = level_0 bytes
level_of bytes (suc level) = level_above (suc level) (level_of bytes level)

-- how many times the level above is taken until one digest is left; the first number counts down,
-- and n digests need fewer than n levels
unfoldable pub levels_above : ℕ → ℕ → ℕ
levels_above zero digests = 0
levels_above (suc more) digests =
    if nat_le digests 1 then 0 else (levels_above more (div_ceil digests 256) + 1)

-- the number of levels above level 0
unfoldable pub levels_of : ℕ → ℕ
levels_of size = levels_above size (max 1 (data_blocks size))

-- the first digest of a list; none is never asked for
abbrev pub first_digest : List Digest → Digest
first_digest [] = record { 0 = replicate 32 0 }
first_digest (digest ∷ _) = digest

-- the root: the one digest of the highest level
unfoldable pub root_of : List ℕ → Digest
root_of bytes = first_digest (level_of bytes (levels_of (length bytes)))

-- ---- the blocks that a blob takes

-- the number of digests of a level
unfoldable pub digests_at : ℕ → ℕ → ℕ
digests_at size zero = max 1 (data_blocks size)
digests_at size (suc level) = div_ceil (digests_at size level) 256

-- version 1 of the format: each level above level 0 fills blocks of its own, one for each digest
abbrev pub padded_tree_blocks : ℕ → ℕ
padded_tree_blocks size = sum_by (digests_at size) (range_with_len 1 (levels_of size))

-- the digests that all levels above level 0 hold: those of each level but the highest
abbrev pub held_digests : ℕ → ℕ
held_digests size = sum_by (digests_at size) (range_with_len 0 (levels_of size))

-- version 2: these digests stand joined, 256 to a block
abbrev pub compact_tree_blocks : ℕ → ℕ
compact_tree_blocks size = div_ceil (held_digests size) 256

-- the blocks of a tree, in version 1 or 2
unfoldable pub tree_blocks_of : ℕ → ℕ → ℕ
tree_blocks_of version size =
    if version == 2 then compact_tree_blocks size else padded_tree_blocks size

-- the blocks of a blob: its data and its tree
unfoldable pub need_of : ℕ → ℕ → ℕ
need_of version size = data_blocks size + tree_blocks_of version size

-- the windows of eight blocks, of which the empty blob has one
abbrev pub windows_of : ℕ → ℕ
windows_of size = max 1 (div_ceil size 65536)
