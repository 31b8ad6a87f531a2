-- The laws of the records. A block or node of a record is read as a value exactly where the value
-- is within its ranges and the bytes are its spelling; so a value has one spelling, and no other
-- bytes are read as it.
use Rattle.std.specs.Prelude.{◌≡◌, ◌≤◌, ◌↔◌, ◌^◌, ℕ, List, length, take, All, Some, codes}
use Rattle.spec_record.specs.declared.superblock.Super.{Super}
use Rattle.spec_record.specs.declared.extent.Extent.{Extent}
use Rattle.spec_record.specs.declared.node.Node.{Node}
use Rattle.spec_record.specs.declared.info.Info.{Info}
use Rattle.spec_record.specs.Field.{IsBlock, IsBytes}
use Rattle.spec_record.specs.Extent.{IsExtent, extent_of, extent_bytes}
use Rattle.spec_record.specs.Node.{node_of}
use Rattle.spec_record.specs.NodeBytes.{IsPlace, IsNode, node_bytes}
use Rattle.spec_record.specs.Geometry.{total_blocks}
use Rattle.spec_record.specs.Superblock.{super_of, IsSuper, super_bytes}
use Rattle.spec_record.specs.Crc.{crc32}
use Rattle.spec_record.specs.Info.{info_of, IsInfo, info_bytes}
use Rattle.spec_record.specs.Entry.{Entry, entry_of}
use Rattle.spec_record.specs.EntryBlocks.{IsEntry, entry_blocks, entry_slots}

-- these bytes spell a superblock whose volume fits on a device of so many blocks
pub record SpellsSuper (bytes : List ℕ) (device_blocks : ℕ) (s : Super) : Type 0 where
  pub lawful : IsSuper s
  pub room : total_blocks s.geometry ≤ device_blocks
  pub bytes_are : bytes ≡ super_bytes s

-- a superblock is read from its spelling alone
abbrev pub SuperIsRead : Type 0
SuperIsRead =
    (bytes : List ℕ) (device_blocks : ℕ) (s : Super) → IsBlock bytes
    → (super_of bytes device_blocks ≡ Some s) ↔ SpellsSuper bytes device_blocks s

-- a superblock takes a block
abbrev pub SuperIsBlock : Type 0
SuperIsBlock = (s : Super) → IsSuper s → IsBlock (super_bytes s)

-- two superblocks with one spelling are equal
abbrev pub SuperIsOne : Type 0
SuperIsOne = (s t : Super) → IsSuper s → IsSuper t → super_bytes s ≡ super_bytes t → s ≡ t

-- these bytes spell the info block of a ring of so many slots
pub record SpellsInfo (bytes : List ℕ) (slots : ℕ) (info : Info) : Type 0 where
  pub lawful : IsInfo slots info
  pub bytes_are : bytes ≡ info_bytes info

-- an info block is read from its spelling alone; a start takes eight bytes
abbrev pub InfoIsRead : Type 0
InfoIsRead =
    (bytes : List ℕ) (slots : ℕ) (info : Info) → IsBlock bytes → slots ≤ 2 ^ 64
    → (info_of bytes slots ≡ Some info) ↔ SpellsInfo bytes slots info

-- an info takes a block
abbrev pub InfoIsBlock : Type 0
InfoIsBlock =
    (slots : ℕ) (info : Info) → IsInfo slots info → slots ≤ 2 ^ 64 → IsBlock (info_bytes info)

-- two infos with one spelling are equal
abbrev pub InfoIsOne : Type 0
InfoIsOne =
    (slots : ℕ) (i j : Info) → IsInfo slots i → IsInfo slots j → slots ≤ 2 ^ 64
    → info_bytes i ≡ info_bytes j → i ≡ j

-- these bytes spell a node of a volume of this version
pub record SpellsNode (bytes : List ℕ) (volume : ℕ) (node : Node) : Type 0 where
  pub lawful : IsNode volume node
  pub bytes_are : bytes ≡ node_bytes node

-- a node is read from its spelling alone
abbrev pub NodeIsRead : Type 0
NodeIsRead =
    (bytes : List ℕ) (volume : ℕ) (node : Node) → IsPlace bytes → volume ≤ 2
    → (node_of bytes volume ≡ Some node) ↔ SpellsNode bytes volume node

-- a node takes a place of the node map
abbrev pub NodeIsPlace : Type 0
NodeIsPlace =
    (volume : ℕ) (node : Node) → IsNode volume node → volume ≤ 2 → IsPlace (node_bytes node)

-- two nodes with one spelling are equal
abbrev pub NodeIsOne : Type 0
NodeIsOne =
    (volume : ℕ) (m n : Node) → IsNode volume m → IsNode volume n → volume ≤ 2
    → node_bytes m ≡ node_bytes n → m ≡ n

-- an extent is read from its eight bytes alone
abbrev pub ExtentIsRead : Type 0
ExtentIsRead =
    (bytes : List ℕ) (blocks : ℕ) (extent : Extent) → IsBytes bytes → length bytes ≡ 8
    → blocks ≤ 2 ^ 48
    → (extent_of bytes blocks ≡ Some extent)
    ↔ (IsExtent blocks extent × (bytes ≡ extent_bytes extent))

-- these blocks begin with the spelling of an entry of this number, in a volume of M metadata blocks
pub record SpellsEntry (blocks : List (List ℕ)) (number meta : ℕ) (e : Entry) : Type 0 where
  pub number_is : e.number ≡ number
  pub lawful : IsEntry meta e
  pub blocks_are : take (entry_slots e) blocks ≡ entry_blocks e

-- an entry is read from what begins with its spelling, whatever lies behind; and where its own
-- blocks are blocks, from nothing else; a header has 679 places
abbrev pub EntryIsRead : Type 0
EntryIsRead =
    (blocks : List (List ℕ)) (number meta : ℕ) (e : Entry) → meta ≤ 679
    → (SpellsEntry blocks number meta e → entry_of blocks number meta ≡ Some e)
    × (entry_of blocks number meta ≡ Some e → All IsBlock (take (entry_slots e) blocks)
    → SpellsEntry blocks number meta e)

-- an entry takes whole blocks, as many as slots
pub record TakesSlots (e : Entry) : Type 0 where
  pub slots : length (entry_blocks e) ≡ entry_slots e
  pub blocks : All IsBlock (entry_blocks e)

-- a lawful entry's blocks are such
abbrev pub EntryTakesSlots : Type 0
EntryTakesSlots = (meta : ℕ) (e : Entry) → IsEntry meta e → meta ≤ 679 → TakesSlots e

-- two entries with one spelling are equal
abbrev pub EntryIsOne : Type 0
EntryIsOne =
    (meta : ℕ) (d e : Entry) → IsEntry meta d → IsEntry meta e → meta ≤ 679
    → entry_blocks d ≡ entry_blocks e → d ≡ e

-- the check value that is published for CRC-32
abbrev pub CrcHasCheckValue : Type 0
CrcHasCheckValue = crc32 (codes "123456789") ≡ 0xCBF43926
