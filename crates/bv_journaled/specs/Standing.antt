-- A store on a device as contracts see it (this project's profile).
use Rattle.std.specs.Prelude.{◌≡◌, ◌≤◌, ◌+◌, ◌-◌, ◌⊎◌, ℕ, List, [], ◌∷◌, ◌++◌, length, map, true, All, Contains, Option, option_map, IfSome, IsSomeAnd, IsTrue}
use Rattle.std.specs.BTreeMap.{insert_entry}
use Rattle.spec_tree.specs.declared.Digest.{Digest}
use Rattle.spec_tree.specs.Order.{digest_cmp}
use Rattle.spec_disk.specs.Disk.{Blocks, reads_right}
use Rattle.spec_record.specs.declared.geometry.Geometry.{Geometry}
use Rattle.spec_record.specs.declared.info.Info.{Info}
use Rattle.spec_record.specs.Field.{IsBlock}
use Rattle.spec_record.specs.Geometry.{IsGeometry, block_at, meta_blocks, total_blocks}
use Rattle.spec_record.specs.Entry.{Entry}
use Rattle.spec_record.specs.EntryBlocks.{entry_blocks}
use Rattle.spec_image.specs.Blobs.{value_of}
use Rattle.spec_image.specs.Chain.{BlobRecord}
use Rattle.spec_image.specs.Stored.{blocks_of}
use Rattle.spec_image.specs.WellFormed.{records_of, is_well_formed}
use Rattle.spec_meta.specs.Blocks.{metadata_at}
use Rattle.spec_meta.specs.Change.{Change as MetaChange, Publish as Published, after_all, log_of_all}
use Rattle.spec_meta.specs.Fits.{AllFit}
use Rattle.spec_rest.specs.Rest.{Map}
use Rattle.bv_device.specs.Told.{Disk}
use Rattle.bv_device.specs.Seen.{Seen}
use Rattle.bv_journal.specs.Holds.{entries_of, with_entry}
use Rattle.bv_ring.specs.Cursor.{Cursor, IsCursor, StandsBehind}
use Rattle.bv_store.specs.declared.publication.Publication.{Publication}
use Rattle.bv_store.specs.Stored.{Stored, Entry as Asked, blocks_in, entry_changes, placed_after, nodes_taken}
use Rattle.bv_txn.specs.declared.change.Change.{Change}
use Rattle.bv_txn.specs.declared.change.Change.TheVariants.{Publish, Purge}
use Rattle.bv_txn.specs.Changes.{change_of}
use Rattle.bv_txn.specs.Metas.{MetaBlocks}
use Rattle.bv_txn.specs.Plans.{Plans}
use Rattle.bv_journaled.specs.declared.prepared.Prepared.{Prepared}
use Rattle.bv_journaled.specs.Kept.{records_at, map_at, IsOf, Keeps}
use Rattle.bv_journaled.specs.Since.{began_at, since, calls_since}

-- the device; how many of its calls were before the mount; the metadata with all entries; where the
-- ring stands; what the last entry changed, until it lasts; the entry that memory is taken for
pub record Standing : Type 0 where
  pub device : Seen
  pub opened : ℕ
  pub meta : MetaBlocks
  pub cursor : Cursor
  pub gone : List Change
  pub planned : Option Prepared

-- the data blocks of each of these blobs, in order
abbrev pub placed_of : List BlobRecord → List (Digest × List ℕ)
placed_of [] = []
placed_of (r ∷ rs) = insert_entry digest_cmp (placed_of rs) r.root (blocks_of r.extents)

-- those of the blobs of these metadata blocks
abbrev pub placed_at : Geometry → Blocks → List (Digest × List ℕ)
placed_at g meta = placed_of (records_at g meta)

-- the data blocks that changes free
abbrev pub freed_by : List Change → List ℕ
freed_by [] = []
freed_by (Publish root size version extents nodes ∷ cs) = freed_by cs
freed_by (Purge nodes extents ∷ cs) = blocks_of extents.items ++ freed_by cs

-- the entry as it was asked for
abbrev pub asked : Prepared → Asked
asked p = record { purged = p.purged.items; published = p.published }

-- what the trait shows
abbrev pub stored_of : Standing → Stored
stored_of s =
    let told = option_map (since s.opened) s.device.told in
    record {
      geometry = s.meta.geometry;
      began = option_map (began_at s.opened) s.device.told;
      told = told;
      calls = calls_since told (s.device.calls_made - s.opened);
      faults = s.device.fault_count;
      placed = placed_at s.meta.geometry s.meta.blocks;
      number = s.cursor.number;
      ring_room = s.cursor.room;
      used_nodes = (metadata_at s.meta.geometry s.meta.blocks).super.used_nodes;
      planned = option_map asked s.planned;
    }

-- the data block belongs to a blob, or to one that the last entry purged
abbrev pub IsHeld : Standing → ℕ → Type 0
IsHeld s b = Contains (blocks_in (stored_of s).placed) b ⊎ Contains (freed_by s.gone) b

-- the disk keeps two maps, of which the second is that of the metadata in memory; the ring stands
-- behind all entries; and the blocks of the first map's blobs are held
pub record RestsOn (s : Standing) (d : Disk) (a b : Map) : Type 0 where
  pub info : Info
  pub entries : List Entry
  pub more : Option Entry
  pub durable : Blocks
  pub keeps : Keeps s.meta.geometry info entries more durable d a b
  pub newest : with_entry more durable ≡ s.meta.blocks
  pub stands : StandsBehind s.cursor info (entries ++ entries_of more)
  pub older : (r : BlobRecord) (x : ℕ) → Contains (records_at s.meta.geometry durable) r → IsOf r x → IsHeld s x

-- the store can go on from two maps
abbrev pub Both : Standing → Map → Map → Type 0
Both s a b = IfSome (stored_of s).told (λ d. RestsOn s d a b)

-- what the blob that is published becomes
pub record IsRecordOf (r : BlobRecord) (p : Publication) : Type 0 where
  pub root : r.root ≡ p.root
  pub blob : value_of r ≡ p.blob
  pub blocks : blocks_of r.extents ≡ p.blocks.items

-- each data block of these blobs is read as the disk has it: its own last write was Ok, or an Ok sync
-- came after
abbrev pub PlacedRight : Geometry → List (Digest × List ℕ) → Disk → Type 0
PlacedRight g placed d =
    (b : ℕ) → Contains (blocks_in placed) b → IsTrue (reads_right d.trace (block_at g b))

-- a prepared entry makes what was asked for of these metadata blocks
pub record IsPrepared (g : Geometry) (meta : Blocks) (number : ℕ) (p : Prepared) : Type 0 where
  pub changes : List MetaChange
  pub changes_are : changes ≡ map change_of p.changes.items
  pub fit : AllFit (metadata_at g meta) changes
  pub plans : Plans g meta number (after_all (metadata_at g meta) changes) p.entry
  pub whole : All (λ t. IsBlock t.1) p.entry.targets
  pub blocks : p.blocks.items ≡ entry_blocks p.entry
  pub logged : log_of_all (metadata_at g meta) changes ≡ entry_changes (map_at g meta) (asked p)
  pub published : (r : BlobRecord) → Contains changes (Published r) → IsSomeAnd p.published (IsRecordOf r)
  pub placed : placed_of (records_of (after_all (metadata_at g meta) changes)) ≡ placed_after (placed_at g meta) (asked p)
  pub nodes : (after_all (metadata_at g meta) changes).super.used_nodes
      ≤ (metadata_at g meta).super.used_nodes + nodes_taken p.published

-- what is true of every store
pub record IsStanding (s : Standing) : Type 0 where
  pub lawful : IsGeometry s.meta.geometry
  pub cursor : IsCursor s.cursor
  pub same : s.cursor.geometry ≡ s.meta.geometry
  pub total : total_blocks s.meta.geometry ≤ s.device.block_count
  pub count : length s.meta.blocks ≡ meta_blocks s.meta.geometry
  pub formed : is_well_formed (metadata_at s.meta.geometry s.meta.blocks) ≡ true
  pub opened : s.opened ≤ s.device.calls_made
  pub told : IfSome s.device.told (λ d. length d.trace ≡ s.device.calls_made)
  pub prepared : IfSome s.planned (IsPrepared s.meta.geometry s.meta.blocks s.cursor.number)
  pub right : IfSome (option_map (since s.opened) s.device.told)
      (PlacedRight s.meta.geometry (placed_at s.meta.geometry s.meta.blocks))
