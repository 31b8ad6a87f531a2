-- The laws of the parts of a record: the magics, the byte that a fault names, payloads as they are
-- stored, the regions of a volume and the ring.
use Rattle.std.specs.Prelude.{◌≡◌, ◌≢◌, ◌≤◌, ◌<◌, ◌+◌, ◌%◌, ℕ, false, List, [], ◌∷◌, ◌++◌, length, slice_index, slice_index_or, codes}
use Rattle.spec_record.specs.declared.geometry.Geometry.{Geometry}
use Rattle.spec_record.specs.Field.{IsBlock, field, bytes_of}
use Rattle.spec_record.specs.Tests.{first_set}
use Rattle.spec_record.specs.Geometry.{IsGeometry, meta_blocks, ring_slots, info_at, slot_at, block_at, total_blocks}
use Rattle.spec_record.specs.Superblock.{first_magic, second_magic}
use Rattle.spec_record.specs.Places.{entry_magic, begins_with_magic}
use Rattle.spec_record.specs.Entry.{restored}
use Rattle.spec_record.specs.EntryBlocks.{stored, flag_of, ring_from}

-- the magics are stored as these bytes
pub record MagicsAreBytes : Type 0 where
  pub first : bytes_of 8 first_magic ≡ codes "blobvol" ++ 0 ∷ []
  pub second : bytes_of 8 second_magic ≡ codes "profile1"
  pub entry : bytes_of 8 entry_magic ≡ 0x79 ∷ 0x72 ∷ 0x74 ∷ 0x6e ∷ 0x62 ∷ 0x6f ∷ 0x6c ∷ 0x62 ∷ []

-- a place is the first of so many from an offset on that holds no zero
pub record IsFirstSet (bytes : List ℕ) (offset width place : ℕ) : Type 0 where
  pub from_offset : offset ≤ place
  pub within : place < offset + width
  pub set : slice_index bytes place ≢ 0
  pub zeros : (i : ℕ) → offset ≤ i → i < place → slice_index bytes i ≡ 0

-- the byte that a fault names is the first of its field that isn't zero
abbrev pub FaultNamesFirstSet : Type 0
FaultNamesFirstSet =
    (bytes : List ℕ) (offset width : ℕ) → field bytes offset width ≢ 0
    → IsFirstSet bytes offset width (first_set bytes offset)

-- no stored payload begins with the magic, so none is taken for a header or a commit
abbrev pub StoredHidesMagic : Type 0
StoredHidesMagic = (payload : List ℕ) → begins_with_magic (stored payload) ≡ false

-- a payload comes back from its flag and the block that is stored
abbrev pub PayloadComesBack : Type 0
PayloadComesBack =
    (payload : List ℕ) → IsBlock payload → restored (flag_of payload) (stored payload) ≡ payload

-- an entry of all metadata blocks fits in a header and in the ring
pub record EntryFits (g : Geometry) : Type 0 where
  pub most_meta : meta_blocks g ≤ 577
  pub most_meta_1 : g.version ≡ 1 → meta_blocks g ≤ 273
  pub in_ring : meta_blocks g + 2 ≤ ring_slots g

-- so it is in every volume within the limits
abbrev pub GeometryFitsEntries : Type 0
GeometryFitsEntries = (g : Geometry) → IsGeometry g → EntryFits g

-- the info block, the slots, the data blocks and the end of the volume follow one another
pub record InOrder (g : Geometry) (slot block : ℕ) : Type 0 where
  pub info_first : info_at g < slot_at g slot
  pub then_slots : slot_at g slot < block_at g block
  pub then_blocks : block_at g block < total_blocks g

-- so it is in every volume, within its own counts
abbrev pub RegionsFollow : Type 0
RegionsFollow =
    (g : Geometry) (slot block : ℕ) → slot < ring_slots g → block < g.blocks → InOrder g slot block

-- from any slot on, the ring's slots follow one another modulo their number
abbrev pub RingIsCyclic : Type 0
RingIsCyclic =
    (ring : List (List ℕ)) (slot i : ℕ) → i < length ring
    → slice_index_or (ring_from ring slot) i [] ≡ slice_index_or ring ((slot + i) % length ring) []

-- and each stands there once
abbrev pub RingIsWhole : Type 0
RingIsWhole =
    (ring : List (List ℕ)) (slot : ℕ) → length (ring_from ring slot) ≡ length ring
