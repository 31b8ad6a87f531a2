-- The version of a blob of the map, by who published it (this project's profile).
use Rattle.std.specs.Prelude.{◌≡◌, ℕ, None, Some}
use Rattle.spec_disk.specs.Disk.{Blocks}
use Rattle.spec_tree.specs.declared.Digest.{Digest}
use Rattle.spec_tree.specs.declared.blob.Blob.{Blob}
use Rattle.spec_image.specs.Volume.{blobs}
use Rattle.spec_core.specs.History.{History, Legal, last_state, opening_map}
use Rattle.spec_core.specs.State.{find}
use Rattle.spec_served.specs.Places.{publisher, version_by}

-- a blob of the map has the version that the history and the opening image say
abbrev pub MapHasVersions : Type 0
MapHasVersions =
    (base : Blocks) (h : History) (next : ℕ) (r : Digest) (blob : Blob)
    → Legal h next → blobs base ≡ Some (opening_map h)
    → find (last_state h next).map r ≡ Some blob
    → blob.version ≡ version_by base h r (publisher r None h.events)
