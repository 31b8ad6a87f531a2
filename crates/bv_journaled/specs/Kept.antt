-- What a disk keeps of a volume's blobs from one call of its store to the next (this project's
-- profile).
--
-- `meta` are the metadata blocks with the durable entries replayed, and `more` is the entry that was
-- written behind them and may not last yet.
use Rattle.std.specs.Prelude.{◌≡◌, ℕ, List, [], true, Option, Contains}
use Rattle.spec_tree.specs.Tree.{root_of}
use Rattle.spec_disk.specs.Disk.{Blocks}
use Rattle.spec_disk.specs.Images.{pending}
use Rattle.spec_record.specs.declared.geometry.Geometry.{Geometry}
use Rattle.spec_record.specs.declared.info.Info.{Info}
use Rattle.spec_record.specs.Geometry.{block_at}
use Rattle.spec_record.specs.Entry.{Entry}
use Rattle.spec_image.specs.Blobs.{blob_map}
use Rattle.spec_image.specs.Chain.{BlobRecord}
use Rattle.spec_image.specs.Stored.{blocks_of, bytes_in}
use Rattle.spec_image.specs.WellFormed.{records_of, is_well_formed}
use Rattle.spec_meta.specs.Blocks.{metadata_at}
use Rattle.spec_rest.specs.Rest.{Map}
use Rattle.bv_device.specs.Told.{Disk}
use Rattle.bv_journal.specs.Holds.{with_entry}
use Rattle.bv_journal.specs.Rests.{AtRest, synced}

-- the blobs of these metadata blocks
abbrev pub records_at : Geometry → Blocks → List BlobRecord
records_at g meta = records_of (metadata_at g meta)

-- the map of these blobs
abbrev pub map_at : Geometry → Blocks → Map
map_at g meta = blob_map (records_at g meta)

-- the data block is one of this blob
abbrev pub IsOf : BlobRecord → ℕ → Type 0
IsOf r b = Contains (blocks_of r.extents) b

-- the data block is one of no blob of these metadata blocks
abbrev pub IsFree : Geometry → Blocks → ℕ → Type 0
IsFree g meta b = (r : BlobRecord) → Contains (records_at g meta) r → ¬ IsOf r b

-- no stop changes a block of the blob, and they have the bytes of its root
pub record IsKept (g : Geometry) (d : Disk) (r : BlobRecord) : Type 0 where
  pub quiet : (b : ℕ) → IsOf r b → pending d.trace (block_at g b) ≡ []
  pub whole : root_of (bytes_in g (synced d) r) ≡ r.root

-- these metadata blocks are well formed and have this map, and each of its blobs is kept
pub record KeepsMap (g : Geometry) (d : Disk) (meta : Blocks) (held : Map) : Type 0 where
  pub formed : is_well_formed (metadata_at g meta) ≡ true
  pub map : held ≡ map_at g meta
  pub blobs : (r : BlobRecord) → Contains (records_at g meta) r → IsKept g d r

-- the journal is at rest, and the map without the entry and that with it are kept
pub record Keeps
    (g : Geometry) (i : Info) (es : List Entry) (more : Option Entry) (meta : Blocks) (d : Disk)
    (a b : Map) : Type 0 where
  pub journal : AtRest g i es more meta d
  pub durable : KeepsMap g d meta a
  pub newest : KeepsMap g d (with_entry more meta) b
