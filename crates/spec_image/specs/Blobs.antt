-- The blobs of a volume as a finite map from root to size and version: a list of entries in the
-- order of the roots (this project's profile).
use Rattle.std.specs.Prelude.{List, [], ◌∷◌}
use Rattle.std.specs.BTreeMap.{insert_entry}
use Rattle.spec_tree.specs.declared.Digest.{Digest}
use Rattle.spec_tree.specs.declared.blob.Blob.{Blob}
use Rattle.spec_tree.specs.Order.{digest_cmp}
use Rattle.spec_image.specs.Chain.{BlobRecord}

-- what the map has at the root of a blob
abbrev pub value_of : BlobRecord → Blob
value_of b = record { size = b.size; version = b.version }

-- the map of these blobs
abbrev pub blob_map : List BlobRecord → List (Digest × Blob)
blob_map [] = []
blob_map (b ∷ bs) = insert_entry digest_cmp (blob_map bs) b.root (value_of b)
