-- What the entries of a value say of its device, and of what was listed.
use Rattle.std.specs.Prelude.{◌≡◌, ℕ, List, [], ◌∷◌, ◌++◌, map, length, take, drop, All, Option, Some, None, IfSome, IsSomeAnd}
use Rattle.spec_disk.specs.declared.event.Event.{Event}
use Rattle.spec_disk.specs.Disk.{Blocks, block, now_after}
use Rattle.spec_disk.specs.Images.{IsSettled}
use Rattle.spec_image.specs.Chain.{BlobRecord}
use Rattle.spec_image.specs.Stored.{fetched_bytes, fetched_path}
use Rattle.spec_core.specs.History.{last_state, opening_map}
use Rattle.spec_core.specs.State.{find}
use Rattle.spec_crash.specs.Crash.{HoldsWhole}
use Rattle.spec_core.specs.declared.event.CoreEvent.{CoreEvent}
use Rattle.spec_session.specs.Own.{Named}
use Rattle.spec_session.specs.Told.{present_blobs}
use Rattle.spec_served.specs.Adds.{AreByLine}
use Rattle.spec_served.specs.Places.{blocks_by, publisher}
use Rattle.spec_tree.specs.declared.Digest.{Digest}
use Rattle.spec_tree.specs.declared.blob.Blob.{Blob}
use Rattle.spec_window.specs.Page.{Page}
use Rattle.bv_pager.specs.Reading.{Reading, known_at}
use Rattle.bv_proof.specs.Page.{page_of}
use Rattle.bv_proof.specs.declared.raw.RawWindow.{RawWindow}
use Rattle.bv_session.specs.declared.entry.Basis.{Basis}
use Rattle.bv_session.specs.declared.entry.Entry.{Entry}
use Rattle.bv_session.specs.declared.entry.Told.{Told}
use Rattle.bv_session.specs.Events.{events_in, history_by, history_of}

-- what was told once so many of these events were made
abbrev pub told_after : Option Told → List Event → ℕ → Option Told
told_after None events calls = None
told_after (Some d) events calls =
    Some (record { base = d.base; trace = d.trace ++ take calls events })

-- each entry has what was told by the end of its event
abbrev pub EachTells : Option Told → List Event → List Entry → Type 0
EachTells told events entries =
    All (λ e. e.told ≡ told_after told events e.event.calls) entries

-- each listing is what was present when its event began
abbrev pub EachLists : Basis → List Entry → Type 0
EachLists basis entries =
    (before : List Entry) (e : Entry) (rest : List Entry) (blobs : List (Digest × ℕ))
    → entries ≡ before ++ e ∷ rest → e.listed ≡ Some blobs
    → blobs ≡ present_blobs (last_state (history_of basis before) basis.next)

-- each entry has the events before it
abbrev pub EachAfter : List Entry → Type 0
EachAfter entries =
    (before : List Entry) (e : Entry) (rest : List Entry)
    → entries ≡ before ++ e ∷ rest → e.before ≡ events_in before

-- the blocks of a disk at these places
abbrev pub blocks_at : Blocks → List ℕ → List (List ℕ)
blocks_at disk places = map (block disk) places

-- a blob without its places
abbrev pub record_of : Digest → Blob → BlobRecord
record_of root b = record {
  root = root;
  size = b.size;
  version = b.version;
  extents = [];
  nodes = [];
}

-- the device's events since the opening by the end of an entry, where it told this then and then that
abbrev pub events_since : Told → Told → List Event
events_since opening told = drop (length opening.trace) told.trace

-- A page of a blob has what the disk has in its place: at the blocks where the blob lies by these
-- events, once the device told this since the opening
abbrev pub HasPage : Basis → Told → Told → Named → List CoreEvent → Page → Type 0
HasPage basis d t blob before page =
    let base = now_after d.base d.trace in
    let at = blocks_by base (events_since d t) before blob.0 (publisher blob.0 None before) in
    let blocks = blocks_at (now_after base (events_since d t)) at in
    IsSomeAnd (find (last_state (history_by basis before) basis.next).map blob.0) (λ b.
    (page.bytes ≡ fetched_bytes (record_of blob.0 b) blocks page.window)
    × (page.path ≡ fetched_path (record_of blob.0 b) blocks page.window))

-- A page of a blob is as the disk has it when this entry ends: where the device tells and was settled
-- at the opening, and lines made the events. Writes and syncs may have failed by then.
abbrev pub IsPageOnDisk : Basis → Named → Entry → Page → Type 0
IsPageOnDisk basis blob e page =
    IfSome basis.told (λ d. IsSomeAnd e.told (λ t.
    IsSettled d.trace → AreByLine [] e.before
    → HasPage basis d t blob e.before page))

-- a window that was fetched by this entry is such a page
abbrev pub IsOnDisk : Basis → Named → Entry → RawWindow → Type 0
IsOnDisk basis blob e raw = IsPageOnDisk basis blob e (page_of blob.0 blob.1 raw)

-- The same of a page that may have been kept since earlier events: where besides the disk had whole
-- blobs at the opening.
abbrev pub IsPageThere : Basis → Named → Entry → Page → Type 0
IsPageThere basis blob e page =
    IfSome basis.told (λ d. IsSomeAnd e.told (λ t.
    IsSettled d.trace
    → HoldsWhole (now_after d.base d.trace) (opening_map (history_by basis []))
    → AreByLine [] e.before
    → HasPage basis d t blob e.before page))

-- each page that a reader knows is such a page of its blob
abbrev pub AreThere : Basis → Entry → Reading → Type 0
AreThere basis e r =
    (w : ℕ) (p : Page) → known_at r w ≡ Some p → IsPageThere basis (r.root, r.size) e p
