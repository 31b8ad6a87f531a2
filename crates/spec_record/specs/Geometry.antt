-- Where each region of a volume lies, and the limits of its counts. This project's profile. The
-- device begins with M metadata blocks, and may have more blocks than the volume needs.
--
-- | block of the device | what it is                                      |
-- |---------------------|-------------------------------------------------|
-- | 0                   | the superblock                                  |
-- | 1 on                | the bitmap, ceil(B / 65536) blocks              |
-- | then up to M - 1    | the node map, N / 128 blocks                    |
-- | M                   | the journal's info block                        |
-- | M + 1 + s           | slot s of the ring, s below J - 1               |
-- | M + J + d           | data block d, d below B                         |
--
-- | count             | limits                                                             |
-- |-------------------|--------------------------------------------------------------------|
-- | version           | 1 or 2                                                             |
-- | data blocks B     | 2 to 1,048,576, in version 2 to 4,194,304                          |
-- | nodes N           | a multiple of 128, from 128 to 32,768, in version 2 to 65,536      |
-- | metadata blocks M | 1 + ceil(B / 65536) + N / 128                                      |
-- | journal blocks J  | M + 3 to 65,536                                                    |
use Rattle.std.specs.Prelude.{◌≡◌, ◌+◌, ◌-◌, ◌/◌, ◌%◌, ℕ, Bool, ◌&&◌, ◌==◌, if◌then◌else◌, List, take, drop}
use Rattle.spec_record.specs.declared.geometry.Geometry.{Geometry}
use Rattle.spec_record.specs.Tests.{IsBetween, is_between}

-- a bitmap block has the bits of 65536 data blocks
abbrev pub bitmap_blocks : Geometry → ℕ
bitmap_blocks g = (g.blocks + 65535) / 65536

-- a block of the node map has 128 nodes of 64 bytes
abbrev pub node_blocks : Geometry → ℕ
node_blocks g = g.nodes / 128

-- M: the superblock, the bitmap and the node map
abbrev pub meta_blocks : Geometry → ℕ
meta_blocks g = 1 + bitmap_blocks g + node_blocks g

-- the slots of the ring: all blocks of the journal but the info block
abbrev pub ring_slots : Geometry → ℕ
ring_slots g = g.journal - 1

-- the device block of the info block
abbrev pub info_at : Geometry → ℕ
info_at g = meta_blocks g

-- the device block of a slot of the ring
abbrev pub slot_at : Geometry → ℕ → ℕ
slot_at g slot = meta_blocks g + 1 + slot

-- the device block of a data block
abbrev pub block_at : Geometry → ℕ → ℕ
block_at g block = meta_blocks g + g.journal + block

-- the blocks that a device needs
abbrev pub total_blocks : Geometry → ℕ
total_blocks g = meta_blocks g + g.journal + g.blocks

-- the most data blocks of a version
abbrev pub most_blocks : ℕ → ℕ
most_blocks version = if version == 1 then 1048576 else 4194304

-- the most nodes of a version
abbrev pub most_nodes : ℕ → ℕ
most_nodes version = if version == 1 then 32768 else 65536

-- every count is within its limits
pub record IsGeometry (g : Geometry) : Type 0 where
  pub version : IsBetween 1 g.version 2
  pub blocks : IsBetween 2 g.blocks (most_blocks g.version)
  pub nodes : IsBetween 128 g.nodes (most_nodes g.version)
  pub whole_node_blocks : g.nodes % 128 ≡ 0
  pub journal : IsBetween (meta_blocks g + 3) g.journal 65536

-- the tests of `IsGeometry`, count by count: the version
abbrev pub is_version : ℕ → Bool
is_version version = is_between 1 version 2

-- the data blocks
abbrev pub is_block_count : ℕ → ℕ → Bool
is_block_count version blocks = is_between 2 blocks (most_blocks version)

-- the nodes
abbrev pub is_node_count : ℕ → ℕ → Bool
is_node_count version nodes = is_between 128 nodes (most_nodes version) && (nodes % 128 == 0)

-- the journal's blocks
abbrev pub is_journal_count : Geometry → Bool
is_journal_count g = is_between (meta_blocks g + 3) g.journal 65536

-- the bitmap in the metadata
abbrev pub bitmap_in : Geometry → List (List ℕ) → List (List ℕ)
bitmap_in g meta = take (bitmap_blocks g) (drop 1 meta)

-- the node map in the metadata
abbrev pub node_map_in : Geometry → List (List ℕ) → List (List ℕ)
node_map_in g meta = take (node_blocks g) (drop (1 + bitmap_blocks g) meta)

-- the ring of an image, slot by slot
abbrev pub ring_in : Geometry → List (List ℕ) → List (List ℕ)
ring_in g image = take (ring_slots g) (drop (slot_at g 0) image)
