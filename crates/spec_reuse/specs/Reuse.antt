-- A blob that is purged can be published again where it was.
use Rattle.std.specs.Prelude.{◌≡◌, ◌≤◌, true, [], ◌∷◌, length, Contains}
use Rattle.spec_record.specs.Node.{nodes_for}
use Rattle.spec_record.specs.Tests.{IsBetween}
use Rattle.spec_image.specs.Chain.{BlobRecord}
use Rattle.spec_image.specs.Metadata.{Metadata}
use Rattle.spec_image.specs.WellFormed.{records_of, is_well_formed}
use Rattle.spec_meta.specs.Change.{Publish, Purge}
use Rattle.spec_meta.specs.Fits.{AllFit}

-- a blob of metadata, of a version that the volume has, with as many nodes as its extents take
pub record IsBlobOf (m : Metadata) (b : BlobRecord) : Type 0 where
  pub present : Contains (records_of m) b
  pub version : IsBetween 1 b.version m.super.geometry.version
  pub nodes : length b.nodes ≡ nodes_for (length b.extents)

-- such a blob of well-formed metadata, whose bitmap has a bit for each data block, can be purged and
-- then published again, in the same blocks and nodes
abbrev pub PurgedFitsAgain : Type 0
PurgedFitsAgain =
    (m : Metadata) (b : BlobRecord) → is_well_formed m ≡ true
    → m.super.geometry.blocks ≤ m.bit_count → IsBlobOf m b
    → AllFit m (Purge b.nodes b.extents ∷ Publish b ∷ [])
