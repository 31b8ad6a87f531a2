-- What a fetch gives, by what the volume's fetch says of the disk.
use Rattle.std.proofs.Common.{◌≡◌, ◌<◌, ◌⊎◌, ℕ, Option, Some, None, List, [], length, map, take, take_all, refl, sym, ap, ◌∙◌, subst, arith, inl, inr, drop, ◌++◌}
use Rattle.std.specs.Prelude.{Result, Ok, Err, IfOk, IfSome, IsSomeAnd}
use Rattle.std.proofs.lemmas.List.{append-nil, drop_at}
use Rattle.std.proofs.lemmas.Simd.{map-map}
use Rattle.spec_disk.specs.Disk.{Blocks, block, now_after}
use Rattle.spec_disk.specs.Images.{IsSettled}
use Rattle.spec_disk.specs.declared.event.Event.{Event}
use Rattle.spec_record.specs.Geometry.{block_at}
use Rattle.spec_record.specs.declared.geometry.Geometry.{Geometry}
use Rattle.spec_image.specs.Stored.{fetched_bytes, fetched_path}
use Rattle.spec_crash.specs.Timing.{MayCall}
use Rattle.spec_tree.specs.Tree.{windows_of}
use Rattle.spec_tree.specs.declared.Digest.{Digest}
use Rattle.spec_tree.specs.declared.blob.Blob.{Blob}
use Rattle.spec_core.specs.Choice.{place_of, unless_empty}
use Rattle.spec_core.specs.Step.{Chosen}
use Rattle.spec_core.specs.declared.choice.Choice.TheVariants.{Reads}
use Rattle.spec_core.specs.History.{History, last_state}
use Rattle.spec_core.specs.State.{find, held}
use Rattle.spec_core.specs.declared.act.Act.{Act}
use Rattle.spec_core.specs.declared.act.Act.TheVariants as acts
use Rattle.spec_core.specs.declared.event.CoreEvent.{CoreEvent}
use Rattle.spec_core.specs.declared.reply.Reply.{Reply}
use Rattle.spec_core.specs.declared.reply.Reply.TheVariants as replies
use Rattle.spec_core.specs.declared.who.Who.{Who}
use Rattle.spec_session.specs.Own.{Named, slot_holds}
use Rattle.spec_served.specs.Adds.{AreByLine}
use Rattle.spec_served.specs.Places.{blocks_by, publisher}
use Rattle.bv_device.specs.Told.{Disk, disk_with, now_of}
use Rattle.bv_fetch.specs.Windows.{Holds}
use Rattle.bv_pager.specs.Reading.{FitsIn}
use Rattle.bv_proof.specs.declared.raw.RawWindow.{RawWindow}
use Rattle.bv_store.specs.Stored.{Grows, blocks_on}
use Rattle.bv_session.specs.declared.serves.Answer.{Answer}
use Rattle.bv_session.specs.declared.serves.Answer.TheVariants as answers
use Rattle.bv_session.specs.Disk.{IsOnDisk, blocks_at, events_since, record_of, told_after}
use Rattle.bv_session.specs.declared.entry.Entry.{Entry}
use Rattle.bv_session.specs.Events.{IfDone, NotesAs, reply_by}
use Rattle.spec_window.specs.Window.{window_bytes}
use Rattle.bv_volume.specs.Events.{Does, Happens}
use Rattle.bv_volume.specs.Fetched.{HasFetched, fetch_reply}
use Rattle.bv_volume.specs.Located.{LiesBy}
use Rattle.bv_volume.specs.Seen.{Seen}
use Rattle.bv_volume.specs.declared.fetching.FetchFault.{FetchFault}
use Rattle.bv_volume.specs.declared.fetching.FetchFault.TheVariants as fetching
use Rattle.bv_shared.specs.Answers.{answer_reply}
use Rattle.bv_shared.specs.Entries.{basis_of, device_events, entries_in, told_of}
use Rattle.bv_shared.specs.Since.{AreOfOneDisk, AreWithin, Since}
use Rattle.bv_shared.proofs.GainLemmas.{entry, gains_entry}
use Rattle.bv_shared.proofs.SinceLemmas.{since_spared}

-- ---- a fetch makes no write and no sync

silent_told : (o new : Option Disk) (slot w : ℕ) → Grows o new (λ d more. (more ≡ []) ⊎ MayCall (acts.Fetch slot w)) → new ≡ o
silent_told None new slot w grows = grows
silent_told (Some d) new slot w grows = grows.1 ∙ none grows.2 where
  none : (grows.0 ≡ []) ⊎ MayCall (acts.Fetch slot w) → Some (disk_with d grows.0) ≡ Some d
  none (inl is) = ap (λ (more : List Event). Some (disk_with d more)) is ∙ ap (λ (xs : List Event). Some (record { base = d.base; trace = xs })) (append-nil d.trace)
  none (inr call) = absurd call

-- ---- the disk

-- a window is this blob's in these blocks
abbrev pub Gives : Digest → Blob → RawWindow → List (List ℕ) → Type 0
Gives root b raw blocks = (raw.bytes.items ≡ fetched_bytes (record_of root b) blocks raw.window) × (raw.path.items ≡ fetched_path (record_of root b) blocks raw.window)

gives_by : (g : Geometry) (places : List ℕ) (root : Digest) (b : Blob) (raw : RawWindow) (x d : Disk) → d.base ≡ now_of x → Holds g places b raw d → Gives root b raw (blocks_at (now_after (now_of x) d.trace) (map (block_at g) places))
gives_by g places root b raw x d disk holds =
    let now : now_after (now_of x) d.trace ≡ now_of d = (λ i. now_after (sym disk i) d.trace) in
    let blocks : blocks_at (now_after (now_of x) d.trace) (map (block_at g) places) ≡ blocks_on g d places = (λ i. blocks_at (now i) (map (block_at g) places)) ∙ map-map (block (now_of d)) (block_at g) places in
    subst (Gives root b raw) (sym blocks) (holds root)

-- where the blob lies by a history's events
abbrev pub lies_by : Blocks → List Event → History → Digest → List ℕ
lies_by base events h root = blocks_by base events h.events root (publisher root None h.events)

-- the window is the blob's, where these are the device's events since
abbrev pub FromThere : Blocks → History → ℕ → Digest → RawWindow → List Event → Type 0
FromThere base h next root raw events =
    AreByLine [] h.events
    → IsSomeAnd (find (last_state h next).map root) (λ y. Gives root y raw (blocks_at (now_after base events) (lies_by base events h root)))

on_disk : (h : History) (next : ℕ) (g : Geometry) (places : List ℕ) (root : Digest) (b : Blob) (raw : RawWindow) (began told : Option Disk) (calls : ℕ) → AreOfOneDisk began told → IfSome told (λ d. length d.trace ≡ calls)
    → find (last_state h next).map root ≡ Some b
    → IfSome began (λ x. IsSettled x.trace → AreByLine [] h.events → IfSome told (λ d. LiesBy g x d h root places))
    → IfSome told (λ d. IfSome began (λ x. IsSettled x.trace) → Holds g places b raw d)
    → IfSome (told_of began) (λ d. IsSomeAnd (told_after (told_of began) (device_events told) calls) (λ t. IsSettled d.trace → FromThere (now_after d.base d.trace) h next root raw (events_since d t)))
on_disk h next g places root b raw None told calls disk counted has by sees = tt
on_disk h next g places root b raw (Some x) None calls disk counted has by sees = absurd disk
on_disk h next g places root b raw (Some x) (Some d) calls disk counted has by sees = λ settled.
    let all : take calls d.trace ≡ d.trace = take_all calls d.trace (omega (arith, counted)) in
    let since : drop (length x.trace) (x.trace ++ take calls d.trace) ≡ d.trace = drop_at x.trace (take calls d.trace) (length x.trace) refl ∙ all in
    subst (FromThere (now_of x) h next root raw) (sym since)
    (λ lines.
    let there = gives_by g places root b raw x d disk (sees settled) in
    let here : Gives root b raw (blocks_at (now_after (now_of x) d.trace) (lies_by (now_of x) d.trace h root)) = subst (λ (ps : List ℕ). Gives root b raw (blocks_at (now_after (now_of x) d.trace) ps)) (by settled lines) there in
    subst (λ (o : Option Blob). IsSomeAnd o (λ y. Gives root y raw (blocks_at (now_after (now_of x) d.trace) (lies_by (now_of x) d.trace h root)))) (sym has) here)

-- ---- the entry of a fetch

-- a held root is in the map, and the slot's session knows it
abbrev pub KnowsHeld : Seen → Who → ℕ → List CoreEvent → Type 0
KnowsHeld u who slot own =
    (r : Digest) → held (last_state u.history u.next).slots (place_of who slot) ≡ Some r
    → IsSomeAnd (find (last_state u.history u.next).map r) (λ b. slot_holds slot own ≡ Some (r, b.size))

pub named_by : (o : Option Blob) (b : Blob) (P : Blob → Type 0) → o ≡ Some b → IsSomeAnd o P → P b
named_by o b P is k = subst (λ (x : Option Blob). IsSomeAnd x P) is k

-- the window exists
pub window_by : (o : Option Digest) (map : Digest → Option Blob) (named : Option Named) (window : ℕ) → ((r : Digest) → o ≡ Some r → IsSomeAnd (map r) (λ b. named ≡ Some (r, b.size))) → IsSomeAnd named (λ blob. window < windows_of blob.1)
    → IfSome o (λ root. IfSome (map root) (λ b. window < windows_of b.size))
window_by None map named window knows within = tt
window_by (Some r) map named window knows within = go (map r) (knows r refl) where
  go : (x : Option Blob) → IsSomeAnd x (λ b. named ≡ Some (r, b.size)) → IfSome x (λ b. window < windows_of b.size)
  go None k = tt
  go (Some b) k = subst (λ (n : Option Named). IsSomeAnd n (λ blob. window < windows_of blob.1)) k within

module _ (u : Seen) (who : Who) (slot window : ℕ) (own : List CoreEvent) (knows : KnowsHeld u who slot own) where
  fits : (raw : RawWindow) → IsSomeAnd (slot_holds slot own) (λ blob. window < windows_of blob.1) → HasFetched u (place_of who slot) window raw → IfSome (slot_holds slot own) (λ blob. (raw.window ≡ window) × FitsIn blob.1 raw)
  fits raw exists fetched =
      let named : slot_holds slot own ≡ Some (fetched.root, fetched.blob.size) = named_by (find (last_state u.history u.next).map fetched.root) fetched.blob (λ b. slot_holds slot own ≡ Some (fetched.root, b.size)) fetched.has (knows fetched.root fetched.holds) in
      let lt : window < windows_of fetched.blob.size = subst (λ (n : Option Named). IsSomeAnd n (λ blob. window < windows_of blob.1)) named exists in
      let l = fetched.lengths in
      subst (λ (n : Option Named). IfSome n (λ blob. (raw.window ≡ window) × FitsIn blob.1 raw)) (sym named) (
        l.window,
        record {
          window = subst (λ (k : ℕ). k < windows_of fetched.blob.size) (sym l.window) lt;
          bytes = l.bytes ∙ ap (window_bytes fetched.blob.size) (sym l.window);
          path = l.path;
        },
      )

  pub fetch_done : {E : Type 0} (result : Result (Answer RawWindow) E) (answer : Result RawWindow FetchFault) → IfOk result (λ a. IfDone a (λ x. answer ≡ Ok x)) → IsSomeAnd (slot_holds slot own) (λ blob. window < windows_of blob.1) → IfOk answer (HasFetched u (place_of who slot) window)
      → IfOk result (λ a. IfDone a (λ x. IfSome (slot_holds slot own) (λ blob. (x.window ≡ window) × FitsIn blob.1 x)))
  fetch_done (Ok (answers.Done x)) answer done exists fetched = fits x exists (subst (λ (r : Result RawWindow FetchFault). IfOk r (HasFetched u (place_of who slot) window)) done fetched)
  fetch_done (Ok (answers.Refused q)) answer done exists fetched = tt
  fetch_done (Err e) answer done exists fetched = tt

module _ (o u w : Seen) (since : Since o u) (within : AreWithin u) (who : Who) (slot window : ℕ) (own : List CoreEvent) (knows : KnowsHeld u who slot own) where
  abbrev act : Act
  act = acts.Fetch slot window

  -- what the entry says of a window
  abbrev pub OnDisk : RawWindow → Entry → Type 0
  OnDisk raw e = IfSome (slot_holds slot own) (λ blob. IsOnDisk (basis_of u o.store.faults) blob e raw)

  holds_on_disk : IfSome w.store.told (λ d. length d.trace ≡ w.store.calls) → (raw : RawWindow) (happens : Happens u w who act replies.Fetched) → HasFetched u (place_of who slot) window raw → OnDisk raw (entry u w within who act replies.Fetched happens)
  holds_on_disk counted raw happens fetched =
      let silent : w.store.told ≡ u.store.told = silent_told u.store.told w.store.told slot window happens.told in
      let named : slot_holds slot own ≡ Some (fetched.root, fetched.blob.size) = named_by (find (last_state u.history u.next).map fetched.root) fetched.blob (λ b. slot_holds slot own ≡ Some (fetched.root, b.size)) fetched.has (knows fetched.root fetched.holds) in
      let at = on_disk u.history u.next u.store.geometry fetched.places fetched.root fetched.blob raw u.store.began u.store.told w.store.calls since.3 (subst (λ (x : Option Disk). IfSome x (λ d. length d.trace ≡ w.store.calls)) silent counted) fetched.has fetched.by fetched.now in
      subst (λ (n : Option Named). IfSome n (λ blob. IsOnDisk (basis_of u o.store.faults) blob (entry u w within who act replies.Fetched happens) raw)) (sym named)
      (subst (λ (x : Option Disk). IfSome (told_of u.store.began) (λ d. IsSomeAnd (told_after (told_of u.store.began) (device_events x) w.store.calls) (λ t. IsSettled d.trace → FromThere (now_after d.base d.trace) u.history u.next fetched.root raw (events_since d t)))) (sym silent) at)

  pub fetch_ok : {E : Type 0} (result : Result (Answer RawWindow) E) (answer : Result RawWindow FetchFault) → answer_reply (λ x. replies.Fetched) result ≡ fetch_reply answer → IfOk result (λ a. IfDone a (λ x. answer ≡ Ok x))
      → Does u w who act (fetch_reply answer) → IfOk answer (HasFetched u (place_of who slot) window) → IfSome w.store.told (λ d. length d.trace ≡ w.store.calls)
      → IfOk result (λ a. NotesAs (entries_in u) (entries_in w) who act (reply_by (λ x. replies.Fetched) a) (λ e. IfDone a (λ x. OnDisk x e)))
  fetch_ok (Ok (answers.Done x)) answer reply done does fetched counted =
      let happens : Happens u w who act replies.Fetched = subst (λ (r : Result RawWindow FetchFault). Does u w who act (fetch_reply r)) done does in
      let there : HasFetched u (place_of who slot) window x = subst (λ (r : Result RawWindow FetchFault). IfOk r (HasFetched u (place_of who slot) window)) done fetched in
      (entry u w within who act replies.Fetched happens, gains_entry u w within who act replies.Fetched happens, refl, refl, refl, holds_on_disk counted x happens there)
  fetch_ok (Ok (answers.Refused q)) answer reply done does fetched counted =
      let happens : Happens u w who act q = subst (λ (x : Option Reply). Does u w who act x) (sym reply) does in
      (entry u w within who act q happens, gains_entry u w within who act q happens, refl, refl, refl, tt)
  fetch_ok (Err e) answer reply done does fetched counted = tt

-- the same of the entries before room was made
pub fetch_roomed : {E : Type 0} (o v u w : Seen) → u ≡ record v { spare = u.spare } → Since o v → AreWithin u → (who : Who) (slot window : ℕ) (own : List CoreEvent) → KnowsHeld u who slot own
    → (result : Result (Answer RawWindow) E) (answer : Result RawWindow FetchFault) → answer_reply (λ x. replies.Fetched) result ≡ fetch_reply answer → IfOk result (λ a. IfDone a (λ x. answer ≡ Ok x))
    → Does u w who (acts.Fetch slot window) (fetch_reply answer) → IfOk answer (HasFetched u (place_of who slot) window) → IfSome w.store.told (λ d. length d.trace ≡ w.store.calls)
    → IfOk result (λ a. NotesAs (entries_in v) (entries_in w) who (acts.Fetch slot window) (reply_by (λ x. replies.Fetched) a) (λ e. IfDone a (λ x. IfSome (slot_holds slot own) (λ blob. IsOnDisk (basis_of v o.store.faults) blob e x))))
fetch_roomed o v u w room since within who slot window own knows result answer reply done does fetched counted =
    subst (λ (y : Seen). IfOk result (λ a. NotesAs (entries_in y) (entries_in w) who (acts.Fetch slot window) (reply_by (λ x. replies.Fetched) a) (λ e. IfDone a (λ x. IfSome (slot_holds slot own) (λ blob. IsOnDisk (basis_of y o.store.faults) blob e x))))) room
    (fetch_ok o u w (since_spared o v u room since) within who slot window own knows result answer reply done does fetched counted)

-- ---- a slot that holds a blob is no bad slot

bad_is_empty : (o : Option Digest) → Chosen (unless_empty o (Reads replies.Fetched)) replies.BadSlot → o ≡ None
bad_is_empty None k = refl
bad_is_empty (Some r) (inl is) = absurd (cc)
bad_is_empty (Some r) (inr (f, is)) = absurd (cc)

pub fetch_known : (u w : Seen) (who : Who) (slot window : ℕ) (answer : Result RawWindow FetchFault) → Does u w who (acts.Fetch slot window) (fetch_reply answer) → (r : Digest) → held (last_state u.history u.next).slots (place_of who slot) ≡ Some r → ¬ (answer ≡ Err fetching.BadSlot)
fetch_known u w who slot window answer does r there bad =
    let happens : Happens u w who (acts.Fetch slot window) replies.BadSlot = subst (λ (x : Result RawWindow FetchFault). Does u w who (acts.Fetch slot window) (fetch_reply x)) bad does in
    let empty = bad_is_empty (held (last_state u.history u.next).slots (place_of who slot)) happens.fits in
    let both : Some r ≡ None = sym there ∙ empty in
    cc
