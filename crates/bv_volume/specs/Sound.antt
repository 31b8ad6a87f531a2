-- Which blobs are sound on the disk.
use Rattle.std.specs.Prelude.{◌≡◌, ℕ, List, [], None, Some, IfSome}
use Rattle.spec_tree.specs.declared.Digest.{Digest}
use Rattle.spec_tree.specs.declared.blob.Blob.{Blob}
use Rattle.spec_core.specs.History.{History, last_state}
use Rattle.spec_core.specs.State.{find}
use Rattle.spec_core.specs.declared.who.Who.{Who}
use Rattle.spec_image.specs.Volume.{IsSound}
use Rattle.spec_rest.specs.Rest.{Map}
use Rattle.spec_served.specs.Adds.{AreByLine}
use Rattle.spec_served.specs.Places.{publisher}
use Rattle.bv_device.specs.Told.{now_of}
use Rattle.bv_store.specs.Stored.{Stored, HasBlob, blocks_on}
use Rattle.bv_volume.specs.Seen.{Opened, Seen}

-- each blob of the map that was published since the mount has its blocks where it lies, and each of
-- its windows verifies
abbrev pub PublishedAreSound : History → Map → Stored → Type 0
PublishedAreSound h map s = IfSome s.told (λ d.
    (r : Digest) (blob : Blob) (places : List ℕ) (w : Who) → publisher r None h.events ≡ Some w
    → find map r ≡ Some blob → find s.placed r ≡ Some places
    → HasBlob r blob (blocks_on s.geometry d places))

-- a blob that was published since the mount is sound on the disk now, while no write or sync has
-- failed, where the opening was settled and whole
abbrev pub PublishedAreSoundNow : Seen → Type 0
PublishedAreSoundNow v = Opened v.store v.history → (last_state v.history v.next).stopped ≡ None
    → IfSome v.store.told (λ d. (r : Digest) (blob : Blob) (w : Who)
    → publisher r None v.history.events ≡ Some w
    → find (last_state v.history v.next).map r ≡ Some blob → IsSound (now_of d) r)

-- a blob that the mount found sound, and that wasn't published again, is sound on the disk now, while
-- no write or sync has failed, where the opening was settled and whole and lines made the events;
-- what is told begins with the disk that the mount found
abbrev pub FoundAreSoundNow : Seen → Type 0
FoundAreSoundNow v = Opened v.store v.history → (last_state v.history v.next).stopped ≡ None
    → AreByLine [] v.history.events
    → IfSome v.store.began (λ b. IfSome v.store.told (λ d. d.base ≡ now_of b
    → (r : Digest) (blob : Blob) → publisher r None v.history.events ≡ None
    → find (last_state v.history v.next).map r ≡ Some blob
    → IsSound (now_of b) r → IsSound (now_of d) r))
