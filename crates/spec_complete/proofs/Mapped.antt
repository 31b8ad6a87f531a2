-- The blob of a line that opened, reads or scans it is in the map.
use Rattle.std.proofs.Common.{◌≡◌, ℕ, Bool, true, false, cond, Option, None, Some, List, [], ◌∷◌, ◌++◌, refl, ap, sym, ◌∙◌, subst, append_assoc}
use Rattle.std.specs.Prelude.{IsSomeAnd}
use Rattle.spec_tree.specs.declared.Digest.{Digest}
use Rattle.spec_tree.specs.declared.blob.Blob.{Blob}
use Rattle.spec_core.proofs.Histories.{Steps-front, Steps-pop, state_after-push}
use Rattle.spec_core.specs.Change.{change}
use Rattle.spec_core.specs.Choice.{choice, open_choice, place_of, unless_empty}
use Rattle.spec_core.specs.History.{History, Legal, NeverFall, first_state, last_state, opening_map, setting_of}
use Rattle.spec_core.specs.State.{State, find, held, is_unlinked}
use Rattle.spec_core.specs.Step.{Chosen, Fits, Steps, after}
use Rattle.spec_core.specs.declared.act.Act.{Act}
use Rattle.spec_core.specs.declared.act.Act.TheVariants.{Open, Read, Scan}
use Rattle.spec_core.specs.declared.choice.Choice.TheVariants.{Only}
use Rattle.spec_core.specs.declared.event.CoreEvent.{CoreEvent}
use Rattle.spec_core.specs.declared.reply.Reply.{Reply}
use Rattle.spec_core.specs.declared.reply.Reply.TheVariants as replies
use Rattle.spec_core.specs.declared.who.Who.{Who}
use Rattle.spec_session.specs.Conform.{events_of}
use Rattle.spec_session.specs.Own.{Named, slot_holds}
use Rattle.spec_orderly.proofs.Held.{held_last}
use Rattle.spec_served.specs.Device.{At, blob_by}
use Rattle.spec_seen.specs.Held.{up_to}
use Rattle.spec_complete.specs.Fit.{IsAbout}
use Rattle.spec_complete.specs.Sound.{LinesAreOfTheMap}
use Rattle.spec_complete.proofs.Results.{some_is}

-- ---- some first events

never_front : (n : ℕ) (xs ys : List CoreEvent) → NeverFall n (xs ++ ys) → NeverFall n xs
never_front n [] ys never = tt
never_front n (e ∷ xs) ys never = (never.0, never_front e.calls xs ys never.1)

-- the first of a legal history's events are a legal history
pub legal_front : (h : History) (next : ℕ) (xs ys : List CoreEvent) → h.events ≡ xs ++ ys → Legal h next → Legal (up_to h xs) next
legal_front h next xs ys is legal = record {
  sorted = legal.sorted;
  steps = Steps-front (setting_of h) (first_state (opening_map h) next) xs ys (subst (λ (es : List CoreEvent). Steps (setting_of h) (first_state (opening_map h) next) es) is legal.steps);
  calls = never_front 0 xs ys (subst (λ (es : List CoreEvent). NeverFall 0 es) is legal.calls);
}

-- ---- one event

-- the map has this blob, with its size
abbrev pub Has : State → Named → Type 0
Has s blob = IsSomeAnd (find s.map blob.0) (λ b. b.size ≡ blob.1)

module _ (s : State) where
  opened_has : (r : Digest) (size : ℕ) (b : Bool) (o : Option Blob) (h : Option Digest) → Chosen (open_choice (cond b None o) h) (replies.Opened size) → IsSomeAnd o (λ x. x.size ≡ size)
  opened_has r size true o h fits = cc
  opened_has r size false None h fits = cc
  opened_has r size false (Some x) (Some y) fits = cc
  opened_has r size false (Some x) None fits = cc

  -- what is replied of a slot that isn't empty
  filled : (h : Option Digest) → Chosen (unless_empty h (Only replies.Reading)) replies.Reading → (r : Digest) × (h ≡ Some r)
  filled None fits = cc
  filled (Some r) fits = (r, refl)

module _ (h : History) (next : ℕ) (before : List CoreEvent) (legal : Legal (up_to h before) next) where
  abbrev now : State
  now = last_state (up_to h before) next

  -- the blob that a slot holds
  slot_has : (who : Who) (slot : ℕ) (blob : Named) → slot_holds slot (events_of who.session before) ≡ Some blob
      → Chosen (unless_empty (held now.slots (place_of who slot)) (Only replies.Reading)) replies.Reading → Has now blob
  slot_has who slot blob named fits =
      let full = filled now (held now.slots (place_of who slot)) fits in
      by (find now.map full.0) refl (held_last (up_to h before) next who.session slot full.0 legal full.1) where
        by : (o : Option Blob) → find now.map (filled now (held now.slots (place_of who slot)) fits).0 ≡ o
            → IsSomeAnd o (λ x. slot_holds slot (events_of who.session before) ≡ Some ((filled now (held now.slots (place_of who slot)) fits).0, x.size)) → Has now blob
        by None is own = absurd own
        by (Some x) is own =
            let same = some_is _ blob (sym own ∙ named) in
            subst (λ (b : Named). Has now b) same (subst (λ (o : Option Blob). IsSomeAnd o (λ b. b.size ≡ x.size)) (sym is) refl)

  before_has : (who : Who) (act : Act) (q : Reply) (blob : Named) → blob_by (events_of who.session before) act q ≡ Some blob
      → Chosen (choice (setting_of h) now who act) q → Has now blob × ((change (setting_of h) now who act q).map ≡ now.map)
  before_has who (Open slot r) (replies.Opened size) blob named fits =
      (subst (λ (b : Named). Has now b) (some_is (r, size) blob named) (opened_has now r size (is_unlinked now r) (find now.map r) (held now.slots (place_of who slot)) fits), refl)
  before_has who (Read slot off len) replies.Reading blob named fits = (slot_has who slot blob named fits, refl)
  before_has who (Scan slot) replies.Reading blob named fits = (slot_has who slot blob named fits, refl)
  before_has who act q blob named fits = absurd cc

-- ---- a line

module _ (h : History) (next : ℕ) (at : At) (legal : Legal h next) (about : IsAbout h at) where
  joined : h.events ≡ (at.before ++ at.own ∷ []) ++ about.rest
  joined = about.is ∙ sym (append_assoc at.before (at.own ∷ []) about.rest)

  pub legal_before : Legal (up_to h at.before) next
  legal_before = legal_front h next at.before (at.own ∷ about.rest) about.is legal

  pub legal_then : Legal (up_to h (at.before ++ at.own ∷ [])) next
  legal_then = legal_front h next (at.before ++ at.own ∷ []) about.rest joined legal

  fits : Fits (setting_of h) (last_state (up_to h at.before) next) at.own
  fits = (Steps-pop (setting_of h) (first_state (opening_map h) next) at.before at.own legal_then.steps).1

  line_has : Has (last_state (up_to h at.before) next) at.blob × ((after (setting_of h) (last_state (up_to h at.before) next) at.own).map ≡ (last_state (up_to h at.before) next).map)
  line_has = before_has h next at.before legal_before at.own.who at.own.act at.own.reply at.blob about.blob fits

  -- before its own event, and as it ends
  pub has_before : Has (last_state (up_to h at.before) next) at.blob
  has_before = line_has.0

  pub has_then : Has (last_state (up_to h (at.before ++ at.own ∷ [])) next) at.blob
  has_then =
      let pushed : last_state (up_to h (at.before ++ at.own ∷ [])) next ≡ after (setting_of h) (last_state (up_to h at.before) next) at.own =
      state_after-push (setting_of h) (first_state (opening_map h) next) at.before at.own in
      subst (λ (m : List (Digest × Blob)). IsSomeAnd (find m at.blob.0) (λ b. b.size ≡ at.blob.1)) (sym (ap (λ (s : State). s.map) pushed ∙ line_has.1)) has_before

pub lines_are_of_map : LinesAreOfTheMap
lines_are_of_map h next at legal about = has_then h next at legal about
