-- A volume without a blob, as `format` makes it (this project's profile).
--
-- | blocks of the device | what they hold                                             |
-- |----------------------|------------------------------------------------------------|
-- | the superblock       | no blob, one used block, which is data block 0, and no node |
-- | the bitmap           | the bit of data block 0, and no other                      |
-- | the node map         | zeros: each node is free                                   |
-- | the info block       | an empty journal that begins at slot 0 with number 1       |
-- | the ring             | zeros                                                      |
--
-- The data blocks may hold anything.
use Rattle.std.specs.Prelude.{◌≡◌, ◌<◌, ◌≤◌, ℕ, ◌+◌, ◌-◌, List, [], ◌∷◌, ◌++◌, length, replicate, slice_index_or}
use Rattle.spec_disk.specs.Disk.{block}
use Rattle.spec_record.specs.declared.geometry.Geometry.{Geometry}
use Rattle.spec_record.specs.declared.superblock.Super.{Super}
use Rattle.spec_record.specs.declared.info.Info.{Info}
use Rattle.spec_record.specs.Geometry.{bitmap_blocks, node_blocks, ring_slots, total_blocks}
use Rattle.spec_record.specs.Superblock.{super_bytes}
use Rattle.spec_record.specs.Info.{info_bytes}

-- a block of zeros
unfoldable pub zero_block : List ℕ
zero_block = replicate 8192 0

-- the superblock of a volume without a blob
abbrev pub empty_super : Geometry → Super
empty_super g = record { geometry = g; blobs = 0; used_blocks = 1; used_nodes = 0 }

-- an empty journal, whose first entry will have number 1
abbrev pub empty_info : Info
empty_info = record { start = 0; number = 1 }

-- a bitmap block with its first bit set
unfoldable pub first_bit_block : List ℕ
first_bit_block = 1 ∷ replicate 8191 0

-- the bitmap in which data block 0 alone is used
abbrev pub empty_bitmap : Geometry → List (List ℕ)
empty_bitmap g = first_bit_block ∷ replicate (bitmap_blocks g - 1) zero_block

-- the blocks behind the superblock, up to the last slot of the ring
abbrev pub empty_behind : Geometry → List (List ℕ)
empty_behind g =
    empty_bitmap g
    ++ (replicate (node_blocks g) zero_block
    ++ (info_bytes empty_info ∷ replicate (ring_slots g) zero_block))

-- an image begins with the blocks of a volume without a blob, and has room for its data blocks
pub record BeginsEmpty (g : Geometry) (j : List (List ℕ)) : Type 0 where
  pub room : total_blocks g ≤ length j
  pub super : block j 0 ≡ super_bytes (empty_super g)
  pub behind : (k : ℕ) → k < length (empty_behind g)
      → block j (1 + k) ≡ slice_index_or (empty_behind g) k []
