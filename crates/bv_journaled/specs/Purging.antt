-- The changes that purge the blobs of some roots (this project's profile).
use Rattle.std.specs.Prelude.{List, [], ◌∷◌, ◌++◌, Option, Some, None}
use Rattle.spec_tree.specs.declared.Digest.{Digest}
use Rattle.spec_image.specs.Chain.{BlobRecord}
use Rattle.spec_image.specs.Metadata.{Metadata}
use Rattle.spec_image.specs.Volume.{blob_in}
use Rattle.spec_meta.specs.Change.{Change, Purge, after_all}

-- the purge of a blob, where there is one
abbrev pub purge_change : Option BlobRecord → List Change
purge_change None = []
purge_change (Some b) = Purge b.nodes b.extents ∷ []

-- the purges of the blobs of these roots, in order; each takes its blob from the metadata
abbrev pub purge_changes : Metadata → List Digest → List Change
purge_changes m [] = []
purge_changes m (root ∷ roots) =
    purge_change (blob_in m root)
    ++ purge_changes (after_all m (purge_change (blob_in m root))) roots
