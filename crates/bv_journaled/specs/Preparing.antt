-- What the changes of an entry make of metadata (this project's profile).
use Rattle.std.specs.Prelude.{◌≡◌, ◌≤◌, ◌+◌, List, Contains, IsSomeAnd}
use Rattle.spec_image.specs.Blobs.{blob_map}
use Rattle.spec_image.specs.Chain.{BlobRecord}
use Rattle.spec_image.specs.Metadata.{Metadata}
use Rattle.spec_image.specs.WellFormed.{records_of}
use Rattle.spec_meta.specs.Change.{Change, Publish, after_all, log_of_all}
use Rattle.spec_meta.specs.Fits.{AllFit}
use Rattle.bv_store.specs.Stored.{Entry, entry_changes, placed_after, nodes_taken}
use Rattle.bv_journaled.specs.Standing.{placed_of, IsRecordOf}

-- the changes fit the metadata, and make what the entry was asked for
pub record Makes (m : Metadata) (e : Entry) (cs : List Change) : Type 0 where
  pub fit : AllFit m cs
  pub logged : log_of_all m cs ≡ entry_changes (blob_map (records_of m)) e
  pub published : (r : BlobRecord) → Contains cs (Publish r) → IsSomeAnd e.published (IsRecordOf r)
  pub placed : placed_of (records_of (after_all m cs)) ≡ placed_after (placed_of (records_of m)) e
  pub nodes : (after_all m cs).super.used_nodes ≤ m.super.used_nodes + nodes_taken e.published
