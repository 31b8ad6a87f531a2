-- What a page that a session's entry brought has, while its slot holds the blob.
use Rattle.std.proofs.Common.{◌≡◌, ◌&&◌, ℕ, Bool, false, cond, Option, Some, None, List, [], ◌∷◌, ◌++◌, map, filter, take, refl, sym, ap, ◌∙◌, subst, arith}
use Rattle.std.specs.Prelude.{All, IsSomeAnd}
use Rattle.std.proofs.lemmas.List.{append-nil}
use Rattle.std.proofs.lemmas.List.Elements.{filter-append}
use Rattle.spec_disk.specs.Disk.{Blocks, block, now_after}
use Rattle.spec_disk.specs.declared.event.Event.{Event}
use Rattle.spec_tree.specs.declared.Digest.{Digest}
use Rattle.spec_tree.specs.declared.blob.Blob.{Blob}
use Rattle.spec_image.specs.Volume.{blobs}
use Rattle.spec_window.specs.Page.{Page}
use Rattle.spec_core.proofs.Histories.{last_calls-push}
use Rattle.spec_core.proofs.Holding.{held_roots_stay}
use Rattle.spec_core.specs.History.{History, Legal, first_state, last_state, opening_map, setting_of}
use Rattle.spec_core.specs.Laws.{Empties}
use Rattle.spec_core.specs.State.{State, among, find, held}
use Rattle.spec_core.specs.Step.{after}
use Rattle.spec_core.specs.declared.act.Act.{Act}
use Rattle.spec_core.specs.declared.act.Act.TheVariants as acts
use Rattle.spec_core.specs.declared.event.CoreEvent.{CoreEvent}
use Rattle.spec_core.specs.declared.reply.Reply.{Reply}
use Rattle.spec_core.specs.declared.reply.Reply.TheVariants as replies
use Rattle.spec_core.specs.declared.place.Place.{Place}
use Rattle.spec_core.specs.declared.setting.Setting.{Setting}
use Rattle.spec_core.specs.declared.who.Who.{Who}
use Rattle.spec_crash.specs.Timing.{event_at}
use Rattle.spec_orderly.proofs.Held.{held_last}
use Rattle.spec_orderly.proofs.Shown.{shown_last}
use Rattle.spec_orderly.specs.Slots.{AreMounted, slot_of}
use Rattle.spec_seen.proofs.HeldLemmas.{stay_published}
use Rattle.spec_seen.proofs.VersionLemmas.{map_versions}
use Rattle.spec_seen.specs.Held.{up_to}
use Rattle.spec_served.specs.Adds.{AreByLine, was_published}
use Rattle.spec_served.specs.Places.{blocks_by, publisher, put_blocks, version_by, was_written, written_at}
use Rattle.spec_session.specs.Conform.{events_of}
use Rattle.spec_session.specs.Own.{Named, slot_holds}
use Rattle.spec_session.specs.Told.{same_who}
use Rattle.bv_session.specs.Pages.{Brings}
use Rattle.bv_volume.proofs.Fetches.{held_here}
use Rattle.bv_volume.proofs.Located.{and_false, publisher_push, unpublished}
use Rattle.bv_shared.specs.KeptPages.{HasIts, IsGiven}
use Rattle.bv_shared.specs.Moments.{HasItsBlob, held_by, there_at}
use Rattle.bv_shared.specs.Since.{EndBy}
use Rattle.bv_shared.proofs.SinceLemmas.{ends_by}
use Rattle.bv_shared.proofs.StayLemmas.{after_both, held_same, held_taken}

-- ---- an open or a fetch changes no blob

module _ (slot : ℕ) where
  quiet_published : (act : Act) (q : Reply) → Brings slot act → was_published act q ≡ false
  quiet_published (acts.Open s root) q b = refl
  quiet_published (acts.Fetch s window) q b = refl
  quiet_published act q b = absurd b

  quiet_written : (act : Act) (q : Reply) → Brings slot act → was_written act q ≡ false
  quiet_written (acts.Open s root) q b = refl
  quiet_written (acts.Fetch s window) q b = refl
  quiet_written act q b = absurd b

  quiet_map : (g : Setting) (s : State) (who : Who) (act : Act) (q : Reply) (calls : ℕ) → Brings slot act → (after g s (record { who = who; act = act; reply = q; calls = calls })).map ≡ s.map
  quiet_map g s who (acts.Open i root) (replies.Opened n) calls b = refl
  quiet_map g s who (acts.Open i root) q calls b = refl
  quiet_map g s who (acts.Fetch i window) q calls b = refl
  quiet_map g s who act q calls b = absurd b

-- an event that puts nothing and publishes nothing
module _ (es : List CoreEvent) (e : CoreEvent) (published : was_published e.act e.reply ≡ false) (written : was_written e.act e.reply ≡ false) where
  publisher_quiet : (root : Digest) → publisher root None (es ++ e ∷ []) ≡ publisher root None es
  publisher_quiet root = publisher_push root None es e ∙ unpublished root (publisher root None es) e.who e.act e.reply published

  puts_quiet : (told : List Event) (who : Who) → put_blocks told (es ++ e ∷ []) who ≡ put_blocks told es who
  puts_quiet told who =
      ap (map (λ (x : CoreEvent). written_at (event_at told x.calls)))
      (filter-append (λ (x : CoreEvent). same_who x.who who && was_written x.act x.reply) es (e ∷ [])
      ∙ ap (λ (b : Bool). filter (λ x. same_who x.who who && was_written x.act x.reply) es ++ cond b (e ∷ []) []) (and_false (same_who e.who who) (was_written e.act e.reply) written)
      ∙ append-nil (filter (λ (x : CoreEvent). same_who x.who who && was_written x.act x.reply) es))

  blocks_quiet : (base : Blocks) (told : List Event) (root : Digest) (o : Option Who) → blocks_by base told (es ++ e ∷ []) root o ≡ blocks_by base told es root o
  blocks_quiet base told root None = refl
  blocks_quiet base told root (Some who) = puts_quiet told who

  -- leaves what the disk has of a blob
  pub there_quiet : (base : Blocks) (told : List Event) (root : Digest) → there_at base told (es ++ e ∷ []) root ≡ there_at base told es root
  there_quiet base told root =
      ap (λ (ps : List ℕ). map (λ b. block (now_after base told) b) ps)
      (ap (blocks_by base told (es ++ e ∷ []) root) (publisher_quiet root) ∙ blocks_quiet base told root (publisher root None es))

-- ---- what a slot holds

-- a root that a slot holds isn't queued
pub held_unqueued : (h : History) (next : ℕ) (events : List CoreEvent) (p : Place) (root : Digest) → Legal (up_to h events) next → held (last_state (up_to h events) next).slots p ≡ Some root
    → among (last_state (up_to h events) next).queue root ≡ false
held_unqueued h next events p root legal there =
    (held_roots_stay (up_to h events) next root legal (held_here (last_state (up_to h events) next).slots p root there)).1

-- after these events a session's slot holds a blob of the map
pub record HeldAt (base : Blocks) (h : History) (next : ℕ) (events : List CoreEvent) (s slot : ℕ) (root : Digest) (size : ℕ) : Type 0 where
  pub there : held (last_state (up_to h events) next).slots (slot_of s slot) ≡ Some root
  pub blob : Blob
  pub found : find (last_state (up_to h events) next).map root ≡ Some blob
  pub of_size : blob.size ≡ size
  pub version : blob.version ≡ version_by base h root (publisher root None events)
  pub unqueued : among (last_state (up_to h events) next).queue root ≡ false

named_size : Option Named → ℕ
named_size None = 0
named_size (Some n) = n.1

module _ (base : Blocks) (h : History) (next : ℕ) (events : List CoreEvent) (s slot : ℕ) (root : Digest) (size : ℕ) where
  by_map : (o : Option Blob) → find (last_state (up_to h events) next).map root ≡ o → Legal (up_to h events) next → blobs base ≡ Some (opening_map h) → slot_holds slot (events_of s events) ≡ Some (root, size)
      → held (last_state (up_to h events) next).slots (slot_of s slot) ≡ Some root → IsSomeAnd o (λ blob. slot_holds slot (events_of s events) ≡ Some (root, blob.size)) → HeldAt base h next events s slot root size
  unfolding named_size
  by_map None found legal opens is there k = absurd k
  by_map (Some blob) found legal opens is there k =
      record { there = there; blob = blob; found = found; of_size = ap named_size (sym k ∙ is); version = map_versions base (up_to h events) next root blob legal opens found; unqueued = held_unqueued h next events (slot_of s slot) root legal there }

  -- what it holds by its session's own events
  pub held_at : Legal (up_to h events) next → AreMounted events → blobs base ≡ Some (opening_map h) → slot_holds slot (events_of s events) ≡ Some (root, size) → HeldAt base h next events s slot root size
  held_at legal mounted opens is =
      let there = shown_last (up_to h events) next s slot root size legal mounted is in
      by_map (find (last_state (up_to h events) next).map root) refl legal opens is there (held_last (up_to h events) next s slot root legal there)

-- ---- the page of an entry

-- a page of a blob of this history is what these blocks give
abbrev pub GivenBy : History → ℕ → List CoreEvent → Digest → List (List ℕ) → Page → Type 0
GivenBy h next events root blocks p = IsSomeAnd (find (last_state (up_to h events) next).map root) (λ x. IsGiven root x.size x.version blocks p)

module _ (base : Blocks) (told : List Event) (h : History) (next : ℕ) (before : List CoreEvent) (e : CoreEvent) (s slot : ℕ) (root : Digest) (size : ℕ)
    (brings : Brings slot e.act) (legal : Legal (up_to h (before ++ e ∷ [])) next) (has : HeldAt base h next (before ++ e ∷ []) s slot root size)
    (its : HasItsBlob base (take e.calls told) (before ++ e ∷ []) root has.blob) where
  abbrev events : List CoreEvent
  events = before ++ e ∷ []

  -- the map before it has the blob, too
  found_before : find (last_state (up_to h before) next).map root ≡ Some has.blob
  found_before =
      let one : last_state (up_to h events) next ≡ after (setting_of h) (last_state (up_to h before) next) e = after_both (setting_of h) (first_state (opening_map h) next) before (e ∷ []) in
      let same : (last_state (up_to h events) next).map ≡ (last_state (up_to h before) next).map = ap (λ (x : State). x.map) one ∙ quiet_map slot (setting_of h) (last_state (up_to h before) next) e.who e.act e.reply e.calls brings in
      ap (λ (m : List (Digest × Blob)). find m root) (sym same) ∙ has.found

  ends_then : EndBy e.calls events
  ends_then = ends_by 0 e.calls events legal.calls (omega (arith, last_calls-push 0 before e))

  -- what the disk then has of it is what it is to hold
  there_then : there_at base (take e.calls told) before root ≡ held_by base told events root (publisher root None events)
  there_then =
      sym (there_quiet before e (quiet_published slot e.act e.reply brings) (quiet_written slot e.act e.reply brings) base (take e.calls told) root)
      ∙ its.4 ∙ held_taken base told events root (publisher root None events) e.calls ends_then

  -- so a page that holds this is that of the entry
  pub page_there : (p : Page) → HasIts base told h events root size p → GivenBy h next before root (there_at base (take e.calls told) before root) p
  page_there p given =
      subst (λ (o : Option Blob). IsSomeAnd o (λ x. IsGiven root x.size x.version (there_at base (take e.calls told) before root) p)) (sym found_before)
      (subst (λ (bs : List (List ℕ)). IsGiven root has.blob.size has.blob.version bs p) (sym there_then)
      (subst (λ (n : ℕ). IsGiven root n has.blob.version (held_by base told events root (publisher root None events)) p) (sym has.of_size)
      (subst (λ (n : ℕ). IsGiven root size n (held_by base told events root (publisher root None events)) p) (sym has.version) given)))

  -- and one of the entry holds this, while the slot holds the blob
  pub page_held : (more : List CoreEvent) → Legal (up_to h (events ++ more)) next → AreByLine [] (events ++ more) → All (λ x. ¬ Empties (slot_of s slot) x.who x.act) more
      → (p : Page) → GivenBy h next before root (there_at base (take e.calls told) before root) p → HasIts base told h (events ++ more) root size p
  page_held more later lined all p given =
      let now : IsGiven root has.blob.size has.blob.version (there_at base (take e.calls told) before root) p =
      subst (λ (o : Option Blob). IsSomeAnd o (λ x. IsGiven root x.size x.version (there_at base (take e.calls told) before root) p)) found_before given in
      let same : publisher root None (events ++ more) ≡ publisher root None events = stay_published h next events more (slot_of s slot) root later has.there all in
      let blocks : there_at base (take e.calls told) before root ≡ held_by base told (events ++ more) root (publisher root None (events ++ more)) =
      there_then ∙ sym (held_same base told h next events more (slot_of s slot) root later lined has.there all) in
      subst (λ (n : ℕ). IsGiven root size n (held_by base told (events ++ more) root (publisher root None (events ++ more))) p) (has.version ∙ ap (version_by base h root) (sym same))
      (subst (λ (n : ℕ). IsGiven root n has.blob.version (held_by base told (events ++ more) root (publisher root None (events ++ more))) p) has.of_size
      (subst (λ (bs : List (List ℕ)). IsGiven root has.blob.size has.blob.version bs p) blocks now))
