-- What the pages of closed blobs are that are kept.
use Rattle.std.specs.Prelude.{◌≡◌, ℕ, false, List, [], ◌∷◌, None, Some, IfOk, IfSome, is_some, Option, Result, ◌-◌, length, option_and_then, slice_get}
use Rattle.std.specs.Coded.{Coded-set, coded_bool, coded_list, coded_ℕ, Π_prop, Unit-prop}
use Rattle.std.specs.Map.{lookup, remove_entry}
use Rattle.spec_disk.specs.Disk.{Blocks}
use Rattle.spec_disk.specs.Images.{IsSettled}
use Rattle.spec_disk.specs.declared.event.Event.{Event}
use Rattle.spec_tree.specs.declared.Digest.{Digest}
use Rattle.spec_image.specs.Stored.{fetched_bytes, fetched_path}
use Rattle.spec_window.specs.Page.{Page}
use Rattle.spec_core.specs.History.{History, opening_map}
use Rattle.spec_core.specs.declared.act.Act.{Act}
use Rattle.spec_core.specs.declared.act.Act.TheVariants as acts
use Rattle.spec_core.specs.declared.event.CoreEvent.{CoreEvent}
use Rattle.spec_crash.specs.Crash.{HoldsWhole}
use Rattle.spec_served.specs.Adds.{AreByLine}
use Rattle.spec_served.specs.Places.{publisher, version_by}
use Rattle.bv_cache.specs.Kept.{is_root}
use Rattle.bv_device.specs.Told.{Disk, now_of}
use Rattle.bv_pager.specs.Reading.{Reading, known_at}
use Rattle.bv_session.specs.Disk.{AreThere, record_of}
use Rattle.bv_session.specs.declared.entry.Basis.{Basis}
use Rattle.bv_session.specs.declared.entry.Entry.{Entry}
use Rattle.bv_volume.specs.Seen.{Seen}
use Rattle.bv_shared.specs.Moments.{held_by}

-- a page of a blob of this root, size and version is what these blocks give
abbrev pub IsGiven : Digest → ℕ → ℕ → List (List ℕ) → Page → Type 0
IsGiven root size version blocks p =
    let b = record_of root (record { size = size; version = version }) in
    (p.bytes ≡ fetched_bytes b blocks p.window) × (p.path ≡ fetched_path b blocks p.window)

-- a page is what its blob's blocks are to hold after these events of a history
abbrev pub HasIts : Blocks → List Event → History → List CoreEvent → Digest → ℕ → Page → Type 0
HasIts base told h events root size p =
    IsGiven root size (version_by base h root (publisher root None events))
    (held_by base told events root (publisher root None events)) p

-- each page that a reader knows is such a page of its blob: where the device tells, was settled at the
-- opening and had whole blobs then, and lines made the events
abbrev pub ReaderHasBy : Option Disk → Option Disk → History → Reading → Type 0
ReaderHasBy began told h r =
    IfSome began (λ b. IfSome told (λ d.
    IsSettled b.trace → HoldsWhole (now_of b) (opening_map h)
    → AreByLine [] h.events
    → (w : ℕ) (p : Page) → known_at r w ≡ Some p
    → HasIts (now_of b) d.trace h h.events r.root r.size p))

-- the same of a volume
abbrev pub ReaderHas : Seen → Reading → Type 0
ReaderHas v r = ReaderHasBy v.store.began v.store.told v.history r

-- each reader is of the root under which it is kept, and the only one there, and P holds of it
abbrev pub AreKept : (Reading → Type 0) → List (Digest × Reading) → Type 0
AreKept P [] = Unit {0}
AreKept P (x ∷ xs) =
    (x.1.root.0 ≡ x.0.0) × (is_some (lookup (is_root x.0) xs) ≡ false) × P x.1 × AreKept P xs

-- what is kept are pages that the volume's blobs are to have
abbrev pub KeptPages : Seen → List (Digest × Reading) → Type 0
KeptPages v kept = AreKept (ReaderHas v) kept

-- where an open found a blob of this size, its entry says of a reader of the blob whose pages are such
-- that they are there
abbrev pub OpensKept : {E : Type 0} → Seen → Basis → Digest → Result ℕ E → Entry → Type 0
OpensKept v basis root answer e =
    IfOk answer (λ n. (r : Reading) → ReaderHas v r → r.root ≡ root → r.size ≡ n
    → AreThere basis e r)

-- the root of a settle
abbrev pub settled_by : Act → Option Digest
settled_by (acts.Settle r) = Some r
settled_by act = None

-- the root that the last of these events settled, where it is a settle
abbrev pub last_settled : List CoreEvent → Option Digest
last_settled events =
    option_and_then (λ e. settled_by e.act) (slice_get events (length events - 1))

-- what is kept but for this root
abbrev pub kept_after : Option Digest → List (Digest × Reading) → List (Digest × Reading)
kept_after None kept = kept
kept_after (Some root) kept = remove_entry (is_root root) kept

-- nothing is kept under this root
abbrev pub HasNone : Digest → List (Digest × Reading) → Type 0
HasNone root kept = is_some (lookup (is_root root) kept) ≡ false

-- ---- each of these facts has one proof at most

HasIts-prop : (base : Blocks) (told : List Event) (h : History) (events : List CoreEvent) (root : Digest) (size : ℕ) (p : Page) → IsProp (HasIts base told h events root size p)
HasIts-prop base told h events root size p =
    let who = publisher root None events in
    let b = record_of root (record { size = size; version = version_by base h root who }) in
    let blocks = held_by base told events root who in
    let bytes = Coded-set (coded_list coded_ℕ) p.bytes (fetched_bytes b blocks p.window) in
    let path = Coded-set (coded_list (coded_list coded_ℕ)) p.path (fetched_path b blocks p.window) in
    λ x y i. (bytes x.0 y.0 i, path x.1 y.1 i)

ReaderHasBy-prop : (began told : Option Disk) (h : History) (r : Reading) → IsProp (ReaderHasBy began told h r)
ReaderHasBy-prop None told h r = Unit-prop
ReaderHasBy-prop (Some b) None h r = Unit-prop
ReaderHasBy-prop (Some b) (Some d) h r =
    Π_prop (λ settled. Π_prop (λ whole. Π_prop (λ lined. Π_prop (λ w. Π_prop (λ p. Π_prop (λ known. HasIts-prop (now_of b) d.trace h h.events r.root r.size p))))))

AreKept-prop : (P : Reading → Type 0) → ((r : Reading) → IsProp (P r)) → (kept : List (Digest × Reading)) → IsProp (AreKept P kept)
AreKept-prop P prop [] = Unit-prop
AreKept-prop P prop (x ∷ xs) =
    let root = Coded-set (coded_list coded_ℕ) x.1.root.0 x.0.0 in
    let sole = Coded-set coded_bool (is_some (lookup (is_root x.0) xs)) false in
    λ y z i. (root y.0 z.0 i, sole y.1 z.1 i, prop x.1 y.2 z.2 i, AreKept-prop P prop xs y.3 z.3 i)

pub KeptPages-prop : (v : Seen) (kept : List (Digest × Reading)) → IsProp (KeptPages v kept)
KeptPages-prop v kept = AreKept-prop (ReaderHas v) (ReaderHasBy-prop v.store.began v.store.told v.history) kept
