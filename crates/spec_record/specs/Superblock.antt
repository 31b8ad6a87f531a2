-- The superblock: block 0 of a volume, 8192 bytes, numbers little-endian. This project's profile.
--
-- | offset | width | field         | value                                            |
-- |-------:|------:|---------------|--------------------------------------------------|
-- |      0 |     8 | magic         | the bytes `blobvol` and a zero byte              |
-- |      8 |     8 | second magic  | the bytes `profile1`                             |
-- |     16 |     4 | version       | 1 or 2                                           |
-- |     20 |     4 | reserved      | 0                                                |
-- |     24 |     8 | blocks        | B, in the limits of the version                  |
-- |     32 |     8 | nodes         | N, in the limits of the version                  |
-- |     40 |     8 | journal       | J, in its limits                                 |
-- |     48 |     8 | bitmap-blocks | ceil(B / 65536)                                  |
-- |     56 |     8 | node-blocks   | N / 128                                          |
-- |     64 |     8 | blobs         | inodes in use, at most N                         |
-- |     72 |     8 | used-blocks   | bits that are set, 1 to B                        |
-- |     80 |     8 | used-nodes    | nodes in use, at most N                          |
-- |     88 |  8104 | rest          | 0                                                |
--
-- A reader refuses by the first of these that fails: the magics, the version, the counts in the
-- order of the table, the zeros, and a device of fewer blocks than the volume needs.
use Rattle.std.specs.Prelude.{◌≤◌, ℕ, Bool, ◌&&◌, ◌==◌, nat_le, List, [], ◌∷◌, Option, Result}
use Rattle.std.specs.Result.{result_ok}
use Rattle.spec_record.specs.declared.geometry.Geometry.{Geometry}
use Rattle.spec_record.specs.declared.superblock.Super.{Super}
use Rattle.spec_record.specs.declared.field_name.FieldName.TheVariants as names
use Rattle.spec_record.specs.declared.super_fault.SuperFault.{SuperFault}
use Rattle.spec_record.specs.declared.super_fault.SuperFault.TheVariants as faults
use Rattle.spec_record.specs.Field.{field, spelled}
use Rattle.spec_record.specs.Tests.{value_or_fault, IsBetween, is_between, first_set}
use Rattle.spec_record.specs.Geometry.{bitmap_blocks, node_blocks, total_blocks, IsGeometry, is_version, is_block_count, is_node_count, is_journal_count}

-- the bytes `blobvol` and a zero byte, as a number
abbrev pub first_magic : ℕ
first_magic = 0x006c6f76626f6c62

-- the bytes `profile1`, as a number
abbrev pub second_magic : ℕ
second_magic = 0x31656c69666f7270

-- the counts in the fields that fix the regions, in their ranges or not
abbrev pub geometry_in : List ℕ → Geometry
geometry_in bytes = record {
  blocks = field bytes 24 8;
  nodes = field bytes 32 8;
  journal = field bytes 40 8;
  version = field bytes 16 4;
}

-- the values in the fields, in their ranges or not
abbrev pub super_in : List ℕ → Super
super_in bytes = record {
  geometry = geometry_in bytes;
  blobs = field bytes 64 8;
  used_blocks = field bytes 72 8;
  used_nodes = field bytes 80 8;
}

-- each row of the table with its range, in the order of the faults
abbrev pub super_tests : List ℕ → ℕ → List (Bool × SuperFault)
super_tests bytes device_blocks =
    let s = super_in bytes in
    let g = s.geometry in
    ((field bytes 0 8 == first_magic) && (field bytes 8 8 == second_magic), faults.Magic)
    ∷ (is_version g.version, faults.Version g.version)
    ∷ (is_block_count g.version g.blocks, faults.Counts names.Blocks g.blocks)
    ∷ (is_node_count g.version g.nodes, faults.Counts names.Nodes g.nodes)
    ∷ (is_journal_count g, faults.Counts names.Journal g.journal)
    ∷ (field bytes 48 8 == bitmap_blocks g, faults.Counts names.BitmapBlocks (field bytes 48 8))
    ∷ (field bytes 56 8 == node_blocks g, faults.Counts names.NodeBlocks (field bytes 56 8))
    ∷ (nat_le s.blobs g.nodes, faults.Counts names.Blobs s.blobs)
    ∷ (is_between 1 s.used_blocks g.blocks, faults.Counts names.UsedBlocks s.used_blocks)
    ∷ (nat_le s.used_nodes g.nodes, faults.Counts names.UsedNodes s.used_nodes)
    ∷ (field bytes 20 4 == 0, faults.Zero (first_set bytes 20))
    ∷ (field bytes 88 8104 == 0, faults.Zero (first_set bytes 88))
    ∷ (nat_le (total_blocks g) device_blocks, faults.ShortDevice (total_blocks g) device_blocks)
    ∷ []

-- what a block 0 stands for on a device of so many blocks, or the first row that fails
unfoldable pub super_or_fault : List ℕ → ℕ → Result Super SuperFault
super_or_fault bytes device_blocks =
    value_or_fault (super_tests bytes device_blocks) (super_in bytes)

-- what a block 0 stands for on a device of so many blocks, or none
abbrev pub super_of : List ℕ → ℕ → Option Super
super_of bytes device_blocks = result_ok (super_or_fault bytes device_blocks)

-- every count is within its range
pub record IsSuper (s : Super) : Type 0 where
  pub geometry : IsGeometry s.geometry
  pub blobs : s.blobs ≤ s.geometry.nodes
  pub used_blocks : IsBetween 1 s.used_blocks s.geometry.blocks
  pub used_nodes : s.used_nodes ≤ s.geometry.nodes

-- the widths of the table, row by row
abbrev pub super_widths : List ℕ
super_widths = 8 ∷ 8 ∷ 4 ∷ 4 ∷ 8 ∷ 8 ∷ 8 ∷ 8 ∷ 8 ∷ 8 ∷ 8 ∷ 8 ∷ 8104 ∷ []

-- the numbers of the table, row by row
abbrev pub super_rows : Super → List ℕ
super_rows s =
    let g = s.geometry in
    first_magic ∷ second_magic ∷ g.version ∷ 0 ∷ g.blocks ∷ g.nodes ∷ g.journal ∷ bitmap_blocks g
    ∷ node_blocks g ∷ s.blobs ∷ s.used_blocks ∷ s.used_nodes ∷ 0 ∷ []

-- the block of a superblock
abbrev pub super_bytes : Super → List ℕ
super_bytes s = spelled super_widths (super_rows s)
