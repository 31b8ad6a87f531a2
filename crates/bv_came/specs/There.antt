-- What the disk had of the blobs of the map as events ended.
use Rattle.std.specs.Prelude.{◌≡◌, ℕ, List, [], ◌∷◌, ◌++◌, take, Some}
use Rattle.spec_disk.specs.Disk.{Blocks}
use Rattle.spec_disk.specs.declared.event.Event.{Event}
use Rattle.spec_tree.specs.declared.Digest.{Digest}
use Rattle.spec_tree.specs.declared.blob.Blob.{Blob}
use Rattle.spec_core.specs.History.{History, last_state}
use Rattle.spec_core.specs.State.{find}
use Rattle.spec_core.specs.declared.event.CoreEvent.{CoreEvent}
use Rattle.spec_seen.specs.Held.{up_to}
use Rattle.bv_shared.specs.Moments.{HasItsBlob, IsSure}

-- as each event of a history ended, the disk had each blob of the map that a failed call can't have
-- purged: `base` is the disk when the mount began, `told` are the device's events since
abbrev pub BlobsAreThere : Blocks → List Event → History → ℕ → Type 0
BlobsAreThere base told h next =
    (before : List CoreEvent) (e : CoreEvent) (rest : List CoreEvent) (root : Digest) (blob : Blob)
    → h.events ≡ before ++ e ∷ rest
    → find (last_state (up_to h (before ++ e ∷ [])) next).map root ≡ Some blob
    → IsSure (last_state (up_to h (before ++ e ∷ [])) next) root
    → HasItsBlob base (take e.calls told) (before ++ e ∷ []) root blob
