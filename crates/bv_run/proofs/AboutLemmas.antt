-- The blob of a line that opened, reads or scans it isn't queued as the line's own event ends.
use Rattle.std.proofs.Common.{◌≡◌, ℕ, ◌||◌, Bool, true, false, cond, Option, None, Some, List, [], ◌∷◌, ◌++◌, refl, ap, sym, ◌∙◌, subst}
use Rattle.std.specs.Prelude.{IsSomeAnd}
use Rattle.spec_tree.specs.declared.Digest.{Digest}
use Rattle.spec_tree.specs.declared.blob.Blob.{Blob}
use Rattle.spec_core.proofs.Histories.{Steps-pop, state_after-push}
use Rattle.spec_core.specs.Change.{change}
use Rattle.spec_core.specs.Choice.{choice, open_choice, place_of, unless_empty}
use Rattle.spec_core.specs.History.{History, Legal, first_state, last_state, opening_map, setting_of}
use Rattle.spec_core.specs.State.{State, among, find, held, is_unlinked}
use Rattle.spec_core.specs.Step.{Chosen}
use Rattle.spec_core.specs.declared.act.Act.{Act}
use Rattle.spec_core.specs.declared.act.Act.TheVariants.{Open, Read, Scan}
use Rattle.spec_core.specs.declared.choice.Choice.TheVariants.{Only}
use Rattle.spec_core.specs.declared.event.CoreEvent.{CoreEvent}
use Rattle.spec_core.specs.declared.reply.Reply.{Reply}
use Rattle.spec_core.specs.declared.reply.Reply.TheVariants as replies
use Rattle.spec_core.specs.declared.who.Who.{Who}
use Rattle.spec_session.specs.Conform.{events_of}
use Rattle.spec_session.specs.Own.{Named, slot_holds}
use Rattle.spec_orderly.proofs.Held.{held_last}
use Rattle.spec_served.specs.Device.{At, blob_by}
use Rattle.spec_seen.specs.Held.{up_to}
use Rattle.spec_complete.specs.Fit.{IsAbout}
use Rattle.spec_complete.proofs.Mapped.{legal_before, legal_then}
use Rattle.bv_shared.proofs.HeldLemmas.{held_unqueued}

named_is : (x y : Named) → Some x ≡ Some y → x ≡ y
named_is x y e = cc e

neither : (a b : Bool) → (a || b) ≡ false → b ≡ false
neither true b is = absurd (cc)
neither false b is = is

module _ (h : History) (next : ℕ) (before : List CoreEvent) (legal : Legal (up_to h before) next) where
  abbrev now : State
  now = last_state (up_to h before) next

  -- a root that was opened isn't unlinked
  opened_unqueued : (r : Digest) (size : ℕ) (b : Bool) (o : Option Blob) (slot : Option Digest) → is_unlinked now r ≡ b → Chosen (open_choice (cond b None o) slot) (replies.Opened size) → among now.queue r ≡ false
  opened_unqueued r size true o slot is fits = cc
  opened_unqueued r size false o slot is fits = neither (among now.leaving r) (among now.queue r) is

  -- what is replied of a slot that isn't empty
  filled : (o : Option Digest) → Chosen (unless_empty o (Only replies.Reading)) replies.Reading → (r : Digest) × (o ≡ Some r)
  filled None fits = cc
  filled (Some r) fits = (r, refl)

  -- a slot holds what its session's own events say
  own_is : (who : Who) (slot : ℕ) (blob : Named) (r : Digest) → slot_holds slot (events_of who.session before) ≡ Some blob → held now.slots (place_of who slot) ≡ Some r → r ≡ blob.0
  own_is who slot blob r named full = by (find now.map r) (held_last (up_to h before) next who.session slot r legal full) where
    by : (o : Option Blob) → IsSomeAnd o (λ x. slot_holds slot (events_of who.session before) ≡ Some (r, x.size)) → r ≡ blob.0
    by None own = absurd own
    by (Some x) own = ap (λ (n : Named). n.0) (named_is (r, x.size) blob (sym own ∙ named))

  slot_unqueued : (who : Who) (slot : ℕ) (blob : Named) → slot_holds slot (events_of who.session before) ≡ Some blob
      → Chosen (unless_empty (held now.slots (place_of who slot)) (Only replies.Reading)) replies.Reading → among now.queue blob.0 ≡ false
  slot_unqueued who slot blob named fits =
      let full = filled (held now.slots (place_of who slot)) fits in
      subst (λ (x : Digest). among now.queue x ≡ false) (own_is who slot blob full.0 named full.1) (held_unqueued h next before (place_of who slot) full.0 legal full.1)

  about_unqueued : (who : Who) (act : Act) (q : Reply) (blob : Named) → blob_by (events_of who.session before) act q ≡ Some blob
      → Chosen (choice (setting_of h) now who act) q → among (change (setting_of h) now who act q).queue blob.0 ≡ false
  about_unqueued who (Open slot r) (replies.Opened size) blob named fits =
      subst (λ (n : Named). among now.queue n.0 ≡ false) (named_is (r, size) blob named)
      (opened_unqueued r size (is_unlinked now r) (find now.map r) (held now.slots (place_of who slot)) refl fits)
  about_unqueued who (Read slot off len) replies.Reading blob named fits = slot_unqueued who slot blob named fits
  about_unqueued who (Scan slot) replies.Reading blob named fits = slot_unqueued who slot blob named fits
  about_unqueued who act q blob named fits = absurd cc

-- so it isn't queued then
pub line_unqueued : (h : History) (next : ℕ) (at : At) → Legal h next → IsAbout h at → among (last_state (up_to h (at.before ++ at.own ∷ [])) next).queue at.blob.0 ≡ false
line_unqueued h next at legal about =
    subst (λ (s : State). among s.queue at.blob.0 ≡ false) (sym (state_after-push (setting_of h) (first_state (opening_map h) next) at.before at.own))
    (about_unqueued h next at.before (legal_before h next at legal about) at.own.who at.own.act at.own.reply at.blob about.blob
    (Steps-pop (setting_of h) (first_state (opening_map h) next) at.before at.own (legal_then h next at legal about).steps).1)
