-- What a line's blob holds on the device as its own event ends: what it held in the opening image, or
-- what verifies (this project's profile).
use Rattle.std.specs.Prelude.{◌≡◌, ℕ, ◌<◌, true, List, [], ◌∷◌, ◌++◌, map, take, Option, Some, None, IsSomeAnd, is_some}
use Rattle.spec_tree.specs.Tree.{windows_of}
use Rattle.spec_tree.specs.declared.Digest.{Digest}
use Rattle.spec_tree.specs.declared.blob.Blob.{Blob}
use Rattle.spec_disk.specs.declared.event.Event.{Event}
use Rattle.spec_disk.specs.Disk.{Blocks, block, now_after}
use Rattle.spec_image.specs.Chain.{BlobRecord}
use Rattle.spec_image.specs.Metadata.{Metadata}
use Rattle.spec_image.specs.Stored.{fetched_bytes, fetched_path}
use Rattle.spec_image.specs.Volume.{blob_in, blobs, metadata_of, IsSound}
use Rattle.spec_window.specs.Window.{Verifies}
use Rattle.spec_core.specs.History.{History, Legal, last_state, opening_map}
use Rattle.spec_core.specs.State.{find}
use Rattle.spec_core.specs.declared.event.CoreEvent.{CoreEvent}
use Rattle.spec_core.specs.declared.who.Who.{Who}
use Rattle.spec_served.specs.Device.{At, stored_at}
use Rattle.spec_served.specs.Places.{blocks_by, image_blocks, image_version, publisher}
use Rattle.spec_seen.specs.Held.{up_to}
use Rattle.spec_headline.specs.Run.{HasSoundBlobs}
use Rattle.spec_complete.specs.Fit.{IsAbout, LinesFit}

-- each window of these blocks verifies to this root and size, in a blob of this version
abbrev pub ContentsVerify : Digest → ℕ → ℕ → List (List ℕ) → Type 0
ContentsVerify root size version contents =
    let b : BlobRecord = record {
      root = root;
      size = size;
      version = version;
      extents = [];
      nodes = [];
    } in
    (w : ℕ) → w < windows_of size
    → Verifies root size w (fetched_bytes b contents w) (fetched_path b contents w)

-- the size of a blob that is there
abbrev pub record_size : Option BlobRecord → ℕ
record_size None = 0
record_size (Some b) = b.size

-- the size of a blob of an image with this metadata
abbrev pub image_size : Digest → Option Metadata → ℕ
image_size root None = 0
image_size root (Some m) = record_size (blob_in m root)

-- what a sound blob has in its blocks verifies
abbrev pub SoundContentsVerify : Type 0
SoundContentsVerify =
    (base : Blocks) (root : Digest) → IsSound base root
    → ContentsVerify root (image_size root (metadata_of base))
    (image_version root (metadata_of base))
    (map (block base) (image_blocks root (metadata_of base)))

-- the blob of a line is in the map as its own event ends, with its size
abbrev pub LinesAreOfTheMap : Type 0
LinesAreOfTheMap =
    (h : History) (next : ℕ) (at : At) → Legal h next → IsAbout h at
    → IsSomeAnd (find (last_state (up_to h (at.before ++ at.own ∷ [])) next).map at.blob.0)
    (λ blob. blob.size ≡ at.blob.1)

module _ (base : Blocks) (told : List Event) (h : History) where
  -- what the blob's blocks are to hold, by who published it last: what the opening image has there, else
  -- what verifies
  abbrev pub HoldsBy : At → Option Who → Type 0
  HoldsBy at None =
      stored_at base told h at
      ≡ map (block base) (blocks_by base told at.before at.blob.0 None)
  HoldsBy at (Some who) =
      ContentsVerify at.blob.0 at.blob.1 h.version (stored_at base told h at)

  -- as the own event of each line that opened, reads or scans a blob ended, its blocks hold that
  abbrev pub LinesHoldTheirs : Type 0
  LinesHoldTheirs =
      (at : At) → IsAbout h at → HoldsBy at (publisher at.blob.0 None at.before)

-- what the disk has at the blob's blocks after these of its events
abbrev pub there_at : Blocks → List Event → List CoreEvent → Digest → List (List ℕ)
there_at base told events root =
    map (block (now_after base told))
    (blocks_by base told events root (publisher root None events))

-- Where nobody has published the blob, its blocks hold what the disk had there at the opening; else
-- what verifies.
pub record HoldsThere
    (base : Blocks) (told : List Event) (events : List CoreEvent) (root : Digest) (blob : Blob) : Type 0
  where
    pub opening : publisher root None events ≡ None
        → there_at base told events root ≡ map (block base) (blocks_by base told events root None)
    pub published : is_some (publisher root None events) ≡ true
        → ContentsVerify root blob.size blob.version (there_at base told events root)

-- where that holds of each blob of the map as each event ended, the blobs of such lines hold theirs
abbrev pub MomentsHoldTheirs : Type 0
MomentsHoldTheirs =
    (base : Blocks) (told : List Event) (h : History) (next : ℕ) → Legal h next
    → ((before : List CoreEvent) (e : CoreEvent) (rest : List CoreEvent)
    → h.events ≡ before ++ e ∷ rest → (root : Digest) (blob : Blob)
    → find (last_state (up_to h (before ++ e ∷ [])) next).map root ≡ Some blob
    → HoldsThere base (take e.calls told) (before ++ e ∷ []) root blob)
    → LinesHoldTheirs base told h

-- where the opening's blobs are sound, such lines fit
abbrev pub HeldLinesFit : Type 0
HeldLinesFit =
    (base : Blocks) (told : List Event) (h : History) (next : ℕ) → Legal h next
    → blobs base ≡ Some (opening_map h) → HasSoundBlobs base → LinesHoldTheirs base told h
    → LinesFit base told h
