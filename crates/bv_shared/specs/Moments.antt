-- What the disk had of the blobs of the map as each event ended.
use Rattle.std.specs.Prelude.{◌≡◌, ◌<◌, ◌⊎◌, ℕ, Bool, true, false, List, [], ◌∷◌, ◌++◌, length, map, take, Option, None, Some, IfSome, is_some}
use Rattle.std.specs.Coded.{Coded-set, coded_bool, coded_list, coded_ℕ, Π_prop, Unit-prop, le_prop}
use Rattle.spec_disk.specs.Disk.{Blocks, block, now_after}
use Rattle.spec_disk.specs.Images.{IsSettled}
use Rattle.spec_disk.specs.declared.event.Event.{Event}
use Rattle.spec_tree.specs.Tree.{windows_of}
use Rattle.spec_tree.specs.declared.Digest.{Digest}
use Rattle.spec_tree.specs.declared.blob.Blob.{Blob}
use Rattle.spec_image.specs.Chain.{BlobRecord}
use Rattle.spec_image.specs.Metadata.{Metadata}
use Rattle.spec_image.specs.Stored.{fetched_bytes, fetched_path}
use Rattle.spec_image.specs.Volume.{blob_in, metadata_of}
use Rattle.spec_window.specs.Window.{Verifies}
use Rattle.spec_core.specs.History.{History, last_state, opening_map}
use Rattle.spec_core.specs.State.{State, among, find}
use Rattle.spec_core.specs.declared.event.CoreEvent.{CoreEvent}
use Rattle.spec_core.specs.declared.who.Who.{Who}
use Rattle.spec_crash.specs.Crash.{HoldsWhole}
use Rattle.spec_seen.specs.Held.{up_to}
use Rattle.spec_served.specs.Adds.{AreByLine}
use Rattle.spec_served.specs.Places.{blocks_by, image_blocks, image_version, publisher}
use Rattle.bv_device.specs.Told.{Disk, now_of}
use Rattle.bv_session.specs.Disk.{record_of}
use Rattle.bv_volume.specs.Contents.{KeepsContents, put_contents}
use Rattle.bv_volume.specs.Located.{Located}
use Rattle.bv_volume.specs.Seen.{HasBlobsNow, Seen}
use Rattle.bv_volume.specs.Sound.{PublishedAreSound}

-- ---- a blob of an image

-- whether an image with this metadata has a blob with this root
abbrev pub image_has : Digest → Option Metadata → Bool
image_has root None = false
image_has root (Some m) = is_some (blob_in m root)

-- the size of a blob that is there
abbrev pub record_size : Option BlobRecord → ℕ
record_size None = 0
record_size (Some b) = b.size

-- its size
abbrev pub image_size : Digest → Option Metadata → ℕ
image_size root None = 0
image_size root (Some m) = record_size (blob_in m root)

-- each window of these blocks verifies to this root and size, in a blob of this version
abbrev pub ContentsVerify : Digest → ℕ → ℕ → List (List ℕ) → Type 0
ContentsVerify root size version contents =
    let b = record_of root (record { size = size; version = version }) in
    (w : ℕ) → w < windows_of size
    → Verifies root size w (fetched_bytes b contents w) (fetched_path b contents w)

-- ---- what a blob of the map has

-- what a blob's blocks are to hold, by who published it last: what the puts of that line wrote, else
-- what the disk had there when the mount began
abbrev pub held_by
    : Blocks → List Event → List CoreEvent → Digest → Option Who → List (List ℕ)
held_by base told events root None = map (block base) (blocks_by base told events root None)
held_by base told events root (Some who) = put_contents told events who

-- what the disk has at the blob's blocks after these of its events
abbrev pub there_at : Blocks → List Event → List CoreEvent → Digest → List (List ℕ)
there_at base told events root =
    map (block (now_after base told))
    (blocks_by base told events root (publisher root None events))

-- after these of its events the disk has a record of the blob with its size and version, whose blocks
-- are those that the history says; they hold what they are to hold, and that verifies where the blob
-- was published since the mount
abbrev pub HasItsBlob : Blocks → List Event → List CoreEvent → Digest → Blob → Type 0
HasItsBlob base told events root blob =
    (image_has root (metadata_of (now_after base told)) ≡ true)
    × (image_size root (metadata_of (now_after base told)) ≡ blob.size)
    × (image_version root (metadata_of (now_after base told)) ≡ blob.version)
    × (image_blocks root (metadata_of (now_after base told))
    ≡ blocks_by base told events root (publisher root None events))
    × (there_at base told events root
    ≡ held_by base told events root (publisher root None events))
    × (is_some (publisher root None events) ≡ true
    → ContentsVerify root blob.size blob.version (there_at base told events root))

-- ---- as an event ended

-- the device was settled when the mount began, and held the opening's blobs, each whole
abbrev pub BeganWhole : Option Disk → History → Type 0
BeganWhole began h = IfSome began (λ d. IsSettled d.trace × HoldsWhole (now_of d) (opening_map h))

-- the disk has this blob of the state's map, also where a failed call may have purged what is queued:
-- nothing has stopped the volume, or the blob isn't queued
abbrev pub IsSure : State → Digest → Type 0
IsSure s root = (s.stopped ≡ None) ⊎ (among s.queue root ≡ false)

-- once these events were made, within so many calls of the device: the disk had each blob of the map,
-- after a write or sync had failed each but those that are queued; where the device tells and lines
-- made the events
abbrev pub Moment : Option Disk → Option Disk → History → ℕ → List CoreEvent → ℕ → Type 0
Moment began told h next events calls =
    BeganWhole began h → AreByLine [] events
    → IfSome began (λ b. IfSome told (λ d. (root : Digest) (blob : Blob)
    → find (last_state (up_to h events) next).map root ≡ Some blob
    → IsSure (last_state (up_to h events) next) root
    → HasItsBlob (now_of b) (take calls d.trace) events root blob))

-- as each event ended
abbrev pub EachMoment : Option Disk → Option Disk → History → ℕ → Type 0
EachMoment began told h next =
    (before : List CoreEvent) (e : CoreEvent) (rest : List CoreEvent)
    → h.events ≡ before ++ e ∷ rest → Moment began told h next (before ++ e ∷ []) e.calls

-- as each event of a volume ended
abbrev pub Moments : Seen → Type 0
Moments v = EachMoment v.store.began v.store.told v.history v.next

-- what a volume says of its disk now: where each blob lies, that the disk has it there, that what was
-- published is sound, what blocks hold, and that the device's calls are told
abbrev pub HasNow : Seen → Type 0
HasNow v =
    Located v.history v.store.geometry v.store.began v.store.told v.store.placed
    × HasBlobsNow v
    × PublishedAreSound v.history (last_state v.history v.next).map v.store
    × KeepsContents v.history v.store.geometry v.store.told v.store.placed
    × IfSome v.store.told (λ d. length d.trace ≡ v.store.calls)

-- ---- each of these facts has one proof at most

Verifies-prop : (name : Digest) (size w : ℕ) (bytes : List ℕ) (path : List (List ℕ)) → IsProp (Verifies name size w bytes path)
Verifies-prop name size w bytes path = hlevel (le_prop, coded_ℕ, coded_list, Coded-set)

HasItsBlob-prop : (base : Blocks) (told : List Event) (events : List CoreEvent) (root : Digest) (blob : Blob) → IsProp (HasItsBlob base told events root blob)
HasItsBlob-prop base told events root blob =
    let now = now_after base told in
    let blocks = blocks_by base told events root (publisher root None events) in
    let has = Coded-set coded_bool (image_has root (metadata_of now)) true in
    let size = Coded-set coded_ℕ (image_size root (metadata_of now)) blob.size in
    let version = Coded-set coded_ℕ (image_version root (metadata_of now)) blob.version in
    let places = Coded-set (coded_list coded_ℕ) (image_blocks root (metadata_of now)) blocks in
    let held = Coded-set (coded_list (coded_list coded_ℕ)) (there_at base told events root) (held_by base told events root (publisher root None events)) in
    λ x y i. (has x.0 y.0 i, size x.1 y.1 i, version x.2 y.2 i, places x.3 y.3 i, held x.4 y.4 i, λ is w there. Verifies-prop _ _ _ _ _ (x.5 is w there) (y.5 is w there) i)

IfSome-prop : {T : Type 0} (o : Option T) (P : T → Type 0) → ((x : T) → IsProp (P x)) → IsProp (IfSome o P)
IfSome-prop None P prop = Unit-prop
IfSome-prop (Some x) P prop = prop x

pub EachMoment-prop : (began told : Option Disk) (h : History) (next : ℕ) → IsProp (EachMoment began told h next)
EachMoment-prop began told h next =
    Π_prop (λ before. Π_prop (λ e. Π_prop (λ rest. Π_prop (λ is. Π_prop (λ whole. Π_prop (λ lined.
    IfSome-prop began (λ b. IfSome told (λ d. (root : Digest) (blob : Blob) → find (last_state (up_to h (before ++ e ∷ [])) next).map root ≡ Some blob → IsSure (last_state (up_to h (before ++ e ∷ [])) next) root → HasItsBlob (now_of b) (take e.calls d.trace) (before ++ e ∷ []) root blob))
    (λ b. IfSome-prop told (λ d. (root : Digest) (blob : Blob) → find (last_state (up_to h (before ++ e ∷ [])) next).map root ≡ Some blob → IsSure (last_state (up_to h (before ++ e ∷ [])) next) root → HasItsBlob (now_of b) (take e.calls d.trace) (before ++ e ∷ []) root blob)
    (λ d. Π_prop (λ root. Π_prop (λ blob. Π_prop (λ has. Π_prop (λ sure. HasItsBlob-prop (now_of b) (take e.calls d.trace) (before ++ e ∷ []) root blob))))))))))))
