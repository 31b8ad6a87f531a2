-- What the disk has now of a store's blobs.
use Rattle.std.specs.Prelude.{◌≡◌, ℕ, List, Some, option_map}
use Rattle.spec_tree.specs.declared.Digest.{Digest}
use Rattle.spec_disk.specs.Disk.{Blocks}
use Rattle.spec_record.specs.declared.geometry.Geometry.{Geometry}
use Rattle.spec_core.specs.State.{find}
use Rattle.spec_image.specs.Blobs.{blob_map}
use Rattle.spec_image.specs.Metadata.{Metadata}
use Rattle.spec_image.specs.Stored.{blocks_of}
use Rattle.spec_image.specs.Volume.{blob_in, metadata_of}
use Rattle.spec_image.specs.WellFormed.{records_of}
use Rattle.spec_rest.specs.Rest.{Map}

-- the image has this map, and a blob's extents are the data blocks where it lies
pub record HasRecords (g : Geometry) (placed : List (Digest × List ℕ)) (map : Map)
    (image : Blocks) : Type 0 where
  pub metadata : Metadata
  pub is : metadata_of image ≡ Some metadata
  pub same : map ≡ blob_map (records_of metadata)
  pub geometry : metadata.super.geometry ≡ g
  pub lie : (r : Digest) → find placed r ≡ option_map (λ b. blocks_of b.extents) (blob_in metadata r)
