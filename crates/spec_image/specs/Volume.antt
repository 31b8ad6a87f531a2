-- What an image of a volume stands for (this project's profile). An image is its list of blocks.
use Rattle.std.specs.Prelude.{◌≡◌, ℕ, List, length, Bool, ◌==◌, ◌&&◌, if◌then◌else◌, find, Option, Some, None, option_map, option_and_then, is_some, IsSomeAnd}
use Rattle.spec_disk.specs.Disk.{block}
use Rattle.spec_tree.specs.declared.Digest.{Digest}
use Rattle.spec_tree.specs.Tree.{root_of}
use Rattle.spec_tree.specs.Order.{same_digest}
use Rattle.spec_record.specs.declared.geometry.Geometry.{Geometry}
use Rattle.spec_record.specs.declared.superblock.Super.{Super}
use Rattle.spec_record.specs.Superblock.{super_of}
use Rattle.spec_tree.specs.declared.blob.Blob.{Blob}
use Rattle.spec_image.specs.Journal.{journal_of}
use Rattle.spec_image.specs.After.{after}
use Rattle.spec_image.specs.Chain.{BlobRecord}
use Rattle.spec_image.specs.Metadata.{Metadata, metadata_in}
use Rattle.spec_image.specs.WellFormed.{records_of, is_well_formed}
use Rattle.spec_image.specs.Blobs.{blob_map}
use Rattle.spec_image.specs.Stored.{bytes_in, AllVerify}

-- the superblock of an image, or none
abbrev pub image_super : List (List ℕ) → Option Super
image_super image = super_of (block image 0) (length image)

-- the image's superblock has this geometry
abbrev pub HasGeometry : List (List ℕ) → Geometry → Type 0
HasGeometry image g = IsSomeAnd (image_super image) (λ s. s.geometry ≡ g)

-- two geometries are the same
abbrev pub same_geometry : Geometry → Geometry → Bool
same_geometry a b =
    (a.version == b.version) && (a.blocks == b.blocks) && (a.nodes == b.nodes)
    && (a.journal == b.journal)

-- the superblock that the replay left, where it's a valid one of the same geometry
abbrev pub replayed_super : Geometry → List (List ℕ) → Option Super
replayed_super g image =
    option_and_then (λ s. if same_geometry s.geometry g then Some s else None)
    (super_of (block (after g image) 0) (length image))

-- the metadata of an image whose superblock has this geometry, or none
abbrev pub metadata_with : List (List ℕ) → Geometry → Option Metadata
metadata_with image g =
    option_and_then (λ s.
    let m = metadata_in s (after g image) in if is_well_formed m then Some m else None)
    (if is_some (journal_of g image).info then replayed_super g image else None)

-- the metadata of an image with its journal replayed; none where the superblock or the info isn't
-- read, where the replayed superblock isn't a valid one of the same geometry, or where the metadata
-- isn't well formed
unfoldable pub metadata_of : List (List ℕ) → Option Metadata
metadata_of image = option_and_then (λ s. metadata_with image s.geometry) (image_super image)

-- Blobs: the map of an image from root to size and version, or none where it has no metadata
abbrev pub blobs : List (List ℕ) → Option (List (Digest × Blob))
blobs image = option_map (λ m. blob_map (records_of m)) (metadata_of image)

-- the blob with this root in some metadata, or none
abbrev pub blob_in : Metadata → Digest → Option BlobRecord
blob_in m root = find (λ b. same_digest root b.root) (records_of m)

-- BytesOf: the bytes of the blob with this root, or none where the image has no such blob
abbrev pub bytes_of : List (List ℕ) → Digest → Option (List ℕ)
bytes_of image root =
    option_and_then (λ m. option_map (bytes_in m.super.geometry image) (blob_in m root))
    (metadata_of image)

-- Whole: the image has a blob with this root, and its bytes have this root
abbrev pub IsWhole : List (List ℕ) → Digest → Type 0
IsWhole image root = IsSomeAnd (bytes_of image root) (λ bytes. root_of bytes ≡ root)

-- Sound: the image has a blob with this root, and each of its windows verifies
abbrev pub IsSound : List (List ℕ) → Digest → Type 0
IsSound image root =
    IsSomeAnd (metadata_of image) (λ m.
    IsSomeAnd (blob_in m root) (AllVerify m.super.geometry image))
