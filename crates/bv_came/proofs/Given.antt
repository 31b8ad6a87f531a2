-- The page that a session's entry brought has what its blob is to hold, by what the entries of a value
-- say.
use Rattle.std.proofs.Common.{◌≡◌, ℕ, ◌==◌, true, cond, Option, Some, List, [], ◌∷◌, ◌++◌, length, take, drop, refl, sym, ap, ◌∙◌, subst, append_assoc, inr}
use Rattle.std.specs.Prelude.{All, IfSome, IsSomeAnd}
use Rattle.std.proofs.lemmas.List.{map-append}
use Rattle.std.proofs.lemmas.List.Elements.{All-head, All-tail, filter-append}
use Rattle.spec_disk.specs.Disk.{Blocks, now_after}
use Rattle.spec_disk.specs.Images.{IsSettled}
use Rattle.spec_disk.specs.declared.event.Event.{Event}
use Rattle.spec_image.specs.Volume.{blobs}
use Rattle.spec_crash.specs.Crash.{HoldsWhole}
use Rattle.spec_window.specs.Page.{Page}
use Rattle.spec_core.specs.History.{History, Legal, opening_map}
use Rattle.spec_core.specs.declared.event.CoreEvent.{CoreEvent}
use Rattle.spec_orderly.specs.Slots.{AreMounted}
use Rattle.spec_seen.proofs.ByLineLemmas.{front_by}
use Rattle.spec_served.specs.Adds.{AreByLine}
use Rattle.spec_session.specs.Conform.{events_of}
use Rattle.spec_session.specs.Own.{Named, slot_holds}
use Rattle.bv_came.proofs.Firsts.{split}
use Rattle.bv_came.proofs.Fronts.{mounted_back, mounted_front}
use Rattle.bv_came.proofs.Owned.{own_is, still_open}
use Rattle.bv_came.proofs.There.{legal_at}
use Rattle.bv_shared.proofs.HeldLemmas.{GivenBy, HeldAt, held_at, page_held}
use Rattle.bv_shared.specs.Moments.{there_at}
use Rattle.bv_came.specs.Sees.{own_entries}
use Rattle.bv_came.specs.There.{BlobsAreThere}
use Rattle.bv_session.specs.Disk.{EachAfter, EachTells, HasPage, IsPageThere, events_since, told_after}
use Rattle.bv_session.specs.declared.entry.Basis.{Basis}
use Rattle.bv_session.specs.declared.entry.Entry.{Entry}
use Rattle.bv_session.specs.declared.entry.Told.{Told}
use Rattle.bv_session.specs.Events.{events_in, history_by}
use Rattle.bv_shared.specs.KeptPages.{HasIts}
use Rattle.bv_session.specs.Pages.{From, StaysOpen}

-- ---- small facts

at_member : {X : Type 0} (P : X → Type 0) (xs : List X) (x : X) (ys : List X) → All P (xs ++ x ∷ ys) → P x
at_member P [] x ys k = All-head P x ys k
at_member P (y ∷ xs) x ys k = at_member P xs x ys (All-tail P y (xs ++ x ∷ ys) k)

drop_past : (xs ys : List Event) → drop (length xs) (xs ++ ys) ≡ ys
drop_past [] ys = refl
drop_past (x ∷ xs) ys = drop_past xs ys

-- ---- the page of an entry

module _ (b : Basis) (d : Told) (is_told : b.told ≡ Some d) (told : List Event) (entries : List Entry)
    (tells : EachTells b.told told entries) (afters : EachAfter entries) where
  abbrev base : Blocks
  base = now_after d.base d.trace

  abbrev history : History
  history = history_by b (events_in entries)

  module _ (legal : Legal history b.next) (mounted : AreMounted (events_in entries)) (lined : AreByLine [] (events_in entries))
      (settled : IsSettled d.trace) (whole : HoldsWhole base (opening_map (history_by b []))) (opening : blobs base ≡ Some (opening_map history))
      (there : BlobsAreThere base told history b.next) (s : ℕ) where
    module _ (slot : ℕ) (blob : Named) (p : Page) (first : List Entry) (entry : Entry) (behind rest : List Entry)
        (is : entries ≡ (first ++ entry ∷ behind) ++ rest) where
      abbrev before : List CoreEvent
      before = events_in first

      abbrev then : List CoreEvent
      then = before ++ entry.event ∷ []

      is_entry : entries ≡ first ++ entry ∷ (behind ++ rest)
      is_entry = is ∙ append_assoc first (entry ∷ behind) rest

      events_are : events_in entries ≡ before ++ entry.event ∷ events_in (behind ++ rest)
      events_are = ap events_in is_entry ∙ map-append (λ (e : Entry). e.event) first (entry ∷ (behind ++ rest))

      events_then : events_in entries ≡ then ++ events_in (behind ++ rest)
      events_then = events_are ∙ sym (append_assoc before (entry.event ∷ []) (events_in (behind ++ rest)))

      events_behind : events_in entries ≡ (then ++ events_in behind) ++ events_in rest
      events_behind = events_then ∙ ap (λ (l : List CoreEvent). then ++ l) (map-append (λ (e : Entry). e.event) behind rest) ∙ sym (append_assoc then (events_in behind) (events_in rest))

      before_is : entry.before ≡ before
      before_is = afters first entry (behind ++ rest) is_entry

      told_is : entry.told ≡ told_after (Some d) told entry.event.calls
      told_is =
          at_member (λ (e : Entry). e.told ≡ told_after b.told told e.event.calls) first entry (behind ++ rest) (subst (λ (l : List Entry). EachTells b.told told l) is_entry tells)
          ∙ ap (λ (o : Option Told). told_after o told entry.event.calls) is_told

      abbrev then_told : Told
      then_told = record { base = d.base; trace = d.trace ++ take entry.event.calls told }

      since_is : events_since d then_told ≡ take entry.event.calls told
      since_is = drop_past d.trace (take entry.event.calls told)

      -- the premises held as the entry ended
      has_page : IsPageThere b blob entry p → HasPage b d then_told blob entry.before p
      has_page k =
          let at : IfSome (Some d) (λ d. IsSomeAnd entry.told (λ t. IsSettled d.trace → HoldsWhole (now_after d.base d.trace) (opening_map (history_by b []))
          → AreByLine [] entry.before → HasPage b d t blob entry.before p)) =
          subst (λ (o : Option Told). IfSome o (λ d. IsSomeAnd entry.told (λ t. IsSettled d.trace → HoldsWhole (now_after d.base d.trace) (opening_map (history_by b []))
          → AreByLine [] entry.before → HasPage b d t blob entry.before p))) is_told k in
          let now : IsSomeAnd (Some then_told) (λ t. IsSettled d.trace → HoldsWhole (now_after d.base d.trace) (opening_map (history_by b []))
          → AreByLine [] entry.before → HasPage b d t blob entry.before p) =
          subst (λ (o : Option Told). IsSomeAnd o (λ t. IsSettled d.trace → HoldsWhole (now_after d.base d.trace) (opening_map (history_by b []))
          → AreByLine [] entry.before → HasPage b d t blob entry.before p)) told_is at in
          now settled whole
          (subst (λ (l : List CoreEvent). AreByLine [] l) (sym before_is) (front_by [] before (entry.event ∷ events_in (behind ++ rest)) (subst (λ (l : List CoreEvent). AreByLine [] l) events_are lined)))

    -- the page of a session's slot has what the blob is to hold, by the history up to then
    module _ (front rest : List Entry) (slot : ℕ) (blob : Named) (p : Page) (is : entries ≡ front ++ rest) (from : From b slot blob (own_entries s front) p)
        (first behind : List Entry) (split_is : front ≡ first ++ from.entry ∷ behind) (mine_first : own_entries s first ≡ from.before) (mine_behind : own_entries s behind ≡ from.rest)
        (is_own : (from.entry.event.who.session == s) ≡ true) where
      abbrev e : CoreEvent
      e = from.entry.event

      abbrev so_far : List CoreEvent
      so_far = events_in first ++ e ∷ []

      are : entries ≡ (first ++ from.entry ∷ behind) ++ rest
      are = is ∙ ap (λ (l : List Entry). l ++ rest) split_is

      at_then : events_in entries ≡ so_far ++ events_in (behind ++ rest)
      at_then = events_then slot blob p first from.entry behind rest are

      at_behind : events_in entries ≡ (so_far ++ events_in behind) ++ events_in rest
      at_behind = events_behind slot blob p first from.entry behind rest are

      holds : slot_holds slot (events_of s so_far) ≡ Some (blob.0, blob.1)
      holds =
          ap (slot_holds slot)
          (ap (events_of s) (sym (map-append (λ (x : Entry). x.event) first (from.entry ∷ [])))
          ∙ sym (own_is s (first ++ from.entry ∷ []))
          ∙ ap events_in (filter-append (λ (x : Entry). x.event.who.session == s) first (from.entry ∷ []) ∙ (λ i. mine_first i ++ cond (is_own i) (from.entry ∷ []) [])))
          ∙ from.held

      has : HeldAt base history b.next so_far s slot blob.0 blob.1
      has =
          held_at base history b.next so_far s slot blob.0 blob.1 (legal_at history b.next legal so_far (events_in (behind ++ rest)) at_then)
          (mounted_front so_far (events_in (behind ++ rest)) (subst AreMounted at_then mounted)) opening holds

      mounted_behind : AreMounted (events_in behind)
      mounted_behind = mounted_back so_far (events_in behind) (mounted_front (so_far ++ events_in behind) (events_in rest) (subst AreMounted at_behind mounted))

      page_now : HasIts base told history (so_far ++ events_in behind) blob.0 blob.1 p
      page_now =
          let page = has_page slot blob p first from.entry behind rest are from.there in
          page_held base told history b.next (events_in first) e s slot blob.0 blob.1 from.brings (legal_at history b.next legal so_far (events_in (behind ++ rest)) at_then) has
          (there (events_in first) e (events_in (behind ++ rest)) blob.0 has.blob (events_are slot blob p first from.entry behind rest are) has.found (inr has.unqueued))
          (events_in behind) (legal_at history b.next legal (so_far ++ events_in behind) (events_in rest) at_behind)
          (front_by [] (so_far ++ events_in behind) (events_in rest) (subst (λ (l : List CoreEvent). AreByLine [] l) at_behind lined))
          (still_open s slot behind (subst (StaysOpen slot) (sym mine_behind) from.stays) mounted_behind)
          p (by_then (before_is slot blob p first from.entry behind rest are) (since_is slot blob p first from.entry behind rest are) page) where
            -- by the events and the device's events up to then
            by_then : from.entry.before ≡ events_in first → events_since d (record { base = d.base; trace = d.trace ++ take e.calls told }) ≡ take e.calls told
                → HasPage b d (record { base = d.base; trace = d.trace ++ take e.calls told }) blob from.entry.before p
                → GivenBy history b.next (events_in first) blob.0 (there_at base (take e.calls told) (events_in first) blob.0) p
            by_then same since k =
                subst (λ (x : List CoreEvent × List Event). GivenBy history b.next x.0 blob.0 (there_at base x.1 x.0 blob.0) p) (λ i. (same i, since i)) k

      page_front : HasIts base told history (events_in front) blob.0 blob.1 p
      page_front =
          subst (λ (l : List CoreEvent). HasIts base told history l blob.0 blob.1 p)
          (append_assoc (events_in first) (e ∷ []) (events_in behind) ∙ sym (map-append (λ (x : Entry). x.event) first (from.entry ∷ behind)) ∙ ap events_in (sym split_is)) page_now

    pub given : (front rest : List Entry) (slot : ℕ) (blob : Named) (p : Page) → entries ≡ front ++ rest → From b slot blob (own_entries s front) p → HasIts base told history (events_in front) blob.0 blob.1 p
    given front rest slot blob p is from =
        let at = split (λ (x : Entry). x.event.who.session == s) front from.before from.entry from.rest from.is in
        page_front front rest slot blob p is from at.before at.behind at.is at.first at.rest at.passes
