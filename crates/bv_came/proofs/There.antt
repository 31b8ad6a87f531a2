-- What the disk has at the blocks of a line's blob, as its own event ends.
use Rattle.std.proofs.Common.{◌≡◌, ◌≤◌, ℕ, false, true, is_some, Option, None, Some, List, [], ◌∷◌, ◌++◌, map, take, refl, sym, ap, ◌∙◌, subst, append_assoc, inr}
use Rattle.std.specs.Prelude.{All, IsSomeAnd}
use Rattle.spec_tree.specs.declared.Digest.{Digest}
use Rattle.spec_tree.specs.declared.blob.Blob.{Blob}
use Rattle.spec_disk.specs.Disk.{Blocks, block, now_after}
use Rattle.spec_disk.specs.declared.event.Event.{Event}
use Rattle.spec_image.specs.Chain.{BlobRecord}
use Rattle.spec_image.specs.Metadata.{Metadata}
use Rattle.spec_image.specs.Stored.{fetched_bytes, fetched_path}
use Rattle.spec_image.specs.Volume.{blob_in, blobs, metadata_of}
use Rattle.spec_core.specs.History.{History, Legal, NeverFall, last_state, opening_map}
use Rattle.spec_core.specs.Laws.{Empties}
use Rattle.spec_core.specs.State.{among, find, held}
use Rattle.spec_core.specs.declared.event.CoreEvent.{CoreEvent}
use Rattle.spec_core.specs.declared.who.Who.{Who}
use Rattle.spec_orderly.proofs.Held.{held_last}
use Rattle.spec_orderly.proofs.Shown.{shown_last}
use Rattle.spec_orderly.specs.Slots.{AreMounted, slot_of}
use Rattle.spec_seen.proofs.ByLineLemmas.{front_by}
use Rattle.spec_seen.proofs.HeldLemmas.{stay_published}
use Rattle.spec_seen.proofs.VersionLemmas.{map_versions}
use Rattle.spec_seen.proofs.WhereLemmas.{known_by_then}
use Rattle.spec_seen.specs.Held.{up_to}
use Rattle.spec_seen.specs.Pages.{HasThere}
use Rattle.spec_served.specs.Adds.{AreByLine}
use Rattle.spec_served.specs.Device.{At, bytes_at, path_at, stored_at}
use Rattle.spec_served.specs.Places.{blocks_by, image_blocks, image_version, publisher, record_blocks, record_version, version_by}
use Rattle.spec_window.specs.Page.{Page}
use Rattle.spec_session.specs.Conform.{events_of}
use Rattle.spec_session.specs.Own.{Named, slot_holds}
use Rattle.bv_came.proofs.Fronts.{end_then, ended_by, mounted_front}
use Rattle.bv_came.proofs.Quiet.{IsLooking, blocks_push, publisher_push}
use Rattle.bv_shared.proofs.HeldLemmas.{held_unqueued}
use Rattle.bv_shared.proofs.StayLemmas.{held_same, held_taken, legal_then}
use Rattle.bv_shared.specs.Moments.{HasItsBlob, held_by, image_has, image_size, record_size, there_at}
use Rattle.bv_came.specs.There.{BlobsAreThere}
use Rattle.bv_session.specs.Disk.{record_of}
use Rattle.bv_shared.specs.KeptPages.{IsGiven}

module _ (h : History) (next : ℕ) (legal : Legal h next) where
  -- a beginning of the history is legal
  pub legal_at : (front rest : List CoreEvent) → h.events ≡ front ++ rest → Legal (up_to h front) next
  legal_at front rest is = legal_then h next front rest (subst (λ (es : List CoreEvent). Legal (up_to h es) next) is legal)

  module _ (mounted : AreMounted h.events) where
    -- what a slot holds by its session's own events it holds
    pub held_at : (front rest : List CoreEvent) (s slot : ℕ) (blob : Named) → h.events ≡ front ++ rest → slot_holds slot (events_of s front) ≡ Some blob
        → held (last_state (up_to h front) next).slots (slot_of s slot) ≡ Some blob.0
    held_at front rest s slot blob is own =
        shown_last (up_to h front) next s slot blob.0 blob.1 (legal_at front rest is) (mounted_front front rest (subst AreMounted is mounted)) own

    one_size : (o : Option Blob) (r : Digest) (n : ℕ) (holds : Option Named) → holds ≡ Some (r, n) → IsSomeAnd o (λ b. holds ≡ Some (r, b.size)) → IsSomeAnd o (λ b. b.size ≡ n)
    one_size None r n holds is k = k
    one_size (Some b) r n holds is k = let same : Some (r, b.size) ≡ Some (r, n) = sym k ∙ is in let pair : (r, b.size) ≡ (r, n) = cc in ap (λ (x : Named). x.1) pair

    -- and the map has its blob, with its size
    pub map_at : (front rest : List CoreEvent) (s slot : ℕ) (blob : Named) → h.events ≡ front ++ rest → slot_holds slot (events_of s front) ≡ Some blob
        → IsSomeAnd (find (last_state (up_to h front) next).map blob.0) (λ b. b.size ≡ blob.1)
    map_at front rest s slot blob is own =
        one_size (find (last_state (up_to h front) next).map blob.0) blob.0 blob.1 (slot_holds slot (events_of s front)) own
        (held_last (up_to h front) next s slot blob.0 (legal_at front rest is) (held_at front rest s slot blob is own))

-- A line's own event, as which it looks at the blob that its slot then holds: what the disk has there.
module _ (base : Blocks) (told more : List Event) (h : History) (next : ℕ) (late : List CoreEvent)
    (legal : Legal h next) (mounted : AreMounted h.events) (lined : AreByLine [] h.events)
    (opening : blobs base ≡ Some (opening_map h)) (there : BlobsAreThere base told h next)
    (before : List CoreEvent) (own : CoreEvent) (rest : List CoreEvent) (is : h.events ≡ before ++ own ∷ rest)
    (looks : IsLooking own.act) (within : take own.calls (told ++ more) ≡ take own.calls told)
    (s slot : ℕ) (blob : Named) (holds : slot_holds slot (events_of s (before ++ own ∷ [])) ≡ Some blob) where
  abbrev then : List CoreEvent
  then = before ++ own ∷ []

  abbrev at : At
  at = record { before = before; own = own; blob = blob }

  abbrev after : History
  after = record h { events = h.events ++ late }

  abbrev who : Option Who
  who = publisher blob.0 None then

  is_then : h.events ≡ then ++ rest
  is_then = is ∙ sym (append_assoc before (own ∷ []) rest)

  by_then : All (λ e. e.calls ≤ own.calls) before
  by_then = ended_by 0 before own rest (subst (λ (es : List CoreEvent). NeverFall 0 es) is legal.calls)

  -- what the history says of the blob is known by then
  blocks_then : blocks_by base (told ++ more) before blob.0 (publisher blob.0 None before) ≡ blocks_by base (take own.calls told) then blob.0 who
  blocks_then =
      sym (known_by_then base (told ++ more) before blob.0 (publisher blob.0 None before) own.calls by_then)
      ∙ ap (λ (ts : List Event). blocks_by base ts before blob.0 (publisher blob.0 None before)) within
      ∙ ap (blocks_by base (take own.calls told) before blob.0) (sym (publisher_push blob.0 before own looks))
      ∙ sym (blocks_push base (take own.calls told) before own blob.0 who looks)

  stored_then : stored_at base (told ++ more) after at ≡ there_at base (take own.calls told) then blob.0
  stored_then = λ i. map (block (now_after base (within i))) (blocks_then i)

  version_then : version_by base after blob.0 (publisher blob.0 None before) ≡ version_by base h blob.0 who
  version_then = ap (version_by base h blob.0) (sym (publisher_push blob.0 before own looks))

  held_first : held (last_state (up_to h then) next).slots (slot_of s slot) ≡ Some blob.0
  held_first = held_at h next legal mounted then rest s slot blob is_then holds

  -- so no call that failed may have purged it
  unqueued : among (last_state (up_to h then) next).queue blob.0 ≡ false
  unqueued = held_unqueued h next then (slot_of s slot) blob.0 (legal_at h next legal then rest is_then) held_first

  module _ (b : Blob) (found : find (last_state (up_to h then) next).map blob.0 ≡ Some b) (size : b.size ≡ blob.1) where
    its : HasItsBlob base (take own.calls told) then blob.0 b
    its = there before own rest blob.0 b is found (inr unqueued)

    held_then : stored_at base (told ++ more) after at ≡ held_by base told then blob.0 who
    held_then =
        stored_then ∙ its.4
        ∙ held_taken base told then blob.0 who own.calls (end_then before own rest (subst (λ (es : List CoreEvent). NeverFall 0 es) is legal.calls))

    version_is : b.version ≡ version_by base h blob.0 who
    version_is = map_versions base (up_to h then) next blob.0 b (legal_at h next legal then rest is_then) opening found

    by_record : (m : Metadata) (o : Option BlobRecord) → metadata_of (now_after base (take own.calls told)) ≡ Some m → blob_in m blob.0 ≡ o
        → is_some o ≡ true → record_size o ≡ b.size → record_version o ≡ b.version → record_blocks m o ≡ blocks_by base (take own.calls told) then blob.0 who → HasThere base (told ++ more) after at
    by_record m None here in_it has sized versioned places = absurd (cc)
    by_record m (Some found) here in_it has sized versioned places = record {
      metadata = m;
      found = found;
      is = ap (λ (ts : List Event). metadata_of (now_after base ts)) within ∙ here;
      has = in_it;
      size = sized ∙ size;
      version = versioned ∙ version_is ∙ sym version_then;
      blocks = places ∙ sym blocks_then;
    }

    by_metadata : (o : Option Metadata) → metadata_of (now_after base (take own.calls told)) ≡ o → image_has blob.0 o ≡ true → image_size blob.0 o ≡ b.size → image_version blob.0 o ≡ b.version
        → image_blocks blob.0 o ≡ blocks_by base (take own.calls told) then blob.0 who → HasThere base (told ++ more) after at
    by_metadata None here has sized versioned places = absurd (cc)
    by_metadata (Some m) here has sized versioned places = by_record m (blob_in m blob.0) here refl has sized versioned places

    pub has_there : HasThere base (told ++ more) after at
    has_there = by_metadata (metadata_of (now_after base (take own.calls told))) refl its.0 its.1 its.2 its.3

  -- some events more, during which the slot stays open
  module _ (mid end behind : List CoreEvent) (split : rest ≡ mid ++ end) (to : behind ≡ then ++ mid) (open_then : All (λ e. ¬ Empties (slot_of s slot) e.who e.act) mid) where
    is_behind : h.events ≡ (then ++ mid) ++ end
    is_behind = is_then ∙ ap (λ (es : List CoreEvent). then ++ es) split ∙ sym (append_assoc then mid end)

    legal_behind : Legal (up_to h (then ++ mid)) next
    legal_behind = legal_at h next legal (then ++ mid) end is_behind

    same_who_then : publisher blob.0 None behind ≡ who
    same_who_then = ap (publisher blob.0 None) to ∙ stay_published h next then mid (slot_of s slot) blob.0 legal_behind held_first open_then

    same_held : held_by base told behind blob.0 (publisher blob.0 None behind) ≡ held_by base told then blob.0 who
    same_held =
        ap (λ (es : List CoreEvent). held_by base told es blob.0 (publisher blob.0 None es)) to
        ∙ held_same base told h next then mid (slot_of s slot) blob.0 legal_behind (front_by [] (then ++ mid) end (subst (λ (es : List CoreEvent). AreByLine [] es) is_behind lined)) held_first open_then

    same_version : version_by base h blob.0 (publisher blob.0 None behind) ≡ version_by base after blob.0 (publisher blob.0 None before)
    same_version = ap (version_by base h blob.0) same_who_then ∙ sym version_then

    module _ (b : Blob) (found : find (last_state (up_to h then) next).map blob.0 ≡ Some b) (size : b.size ≡ blob.1) where
      same_stored : held_by base told behind blob.0 (publisher blob.0 None behind) ≡ stored_at base (told ++ more) after at
      same_stored = same_held ∙ sym (held_then b found size)

      -- a page that has what the blob is to hold then is the line's
      pub page_there : (p : Page) → IsGiven blob.0 blob.1 (version_by base h blob.0 (publisher blob.0 None behind)) (held_by base told behind blob.0 (publisher blob.0 None behind)) p
          → (p.bytes ≡ bytes_at base (told ++ more) after at p.window) × (p.path ≡ path_at base (told ++ more) after at p.window)
      page_there p k = (
        k.0 ∙ (λ i. fetched_bytes (record_of blob.0 (record { size = blob.1; version = same_version i })) (same_stored i) p.window),
        k.1 ∙ (λ i. fetched_path (record_of blob.0 (record { size = blob.1; version = same_version i })) (same_stored i) p.window),
      )
