-- What slots hold by their sessions' own events, step by step.
use Rattle.std.proofs.Common.{◌≡◌, ℕ, ◌==◌, Bool, true, false, cond, Option, Some, None, List, [], ◌∷◌, ◌++◌, refl, sym, ap, ◌∙◌, subst, append_assoc, eq-eqb}
use Rattle.std.specs.Prelude.{if◌then◌else◌}
use Rattle.std.specs.Cmp.{eq_by_cmp_equiv}
use Rattle.std.specs.Ordering.{eq_by_cmp}
use Rattle.std.proofs.lemmas.Bool.{eqb-true}
use Rattle.std.proofs.lemmas.List.{append-nil}
use Rattle.spec_tree.specs.declared.Digest.{Digest}
use Rattle.spec_core.proofs.EntryLemmas.{lookup-insert_entry}
use Rattle.spec_core.proofs.Slots.{place_total, slots_stay}
use Rattle.spec_core.specs.Change.{change}
use Rattle.spec_core.specs.Choice.{choice, place_of, unless_empty}
use Rattle.spec_core.specs.History.{first_state, opening_map, setting_of}
use Rattle.spec_core.specs.Laws.{Empties}
use Rattle.spec_core.specs.Order.{place_cmp}
use Rattle.spec_core.specs.State.{State, held}
use Rattle.spec_core.specs.Step.{Chosen, Steps, after, state_after}
use Rattle.spec_core.specs.declared.act.Act.{Act}
use Rattle.spec_core.specs.declared.act.Act.TheVariants.{Open, Close, Unmount}
use Rattle.spec_core.specs.declared.choice.Choice.TheVariants.{Only}
use Rattle.spec_core.specs.declared.event.CoreEvent.{CoreEvent}
use Rattle.spec_core.specs.declared.place.Place.{Place}
use Rattle.spec_core.specs.declared.reply.Reply.{Reply}
use Rattle.spec_core.specs.declared.reply.Reply.TheVariants.{Opened, Closed}
use Rattle.spec_core.specs.declared.setting.Setting.{Setting}
use Rattle.spec_core.specs.declared.who.Who.{Who}
use Rattle.spec_session.specs.Own.{Named}
use Rattle.spec_orderly.specs.Slots.{AreMounted, OwnSlotsAreHeld, is_unmount, slot_of}
use Rattle.spec_orderly.proofs.Held.{Slots, apart_bools, own_after, owns, owns_more, same_either}

-- what slots hold by their sessions' own events is held there
abbrev Shown : Slots → State → Type 0
Shown own st = (s i : ℕ) (r : Digest) (n : ℕ) → own s i ≡ Some (r, n) → held st.slots (slot_of s i) ≡ Some r

same_root : (x y : Named) → Some x ≡ Some y → Some x.0 ≡ Some y.0
same_root x y is = let same : x ≡ y = cc in ap (λ (z : Named). Some z.0) same

-- a close of a place that holds a root closes
closes : (o : Option Digest) (r : Digest) (q : Reply) → Chosen (unless_empty o (Only Closed)) q → o ≡ Some r → q ≡ Closed
closes None r q c is = absurd (cc)
closes (Some x) r q c is = c

module _ (g : Setting) (st : State) (own : Slots) (shown : Shown own st) (w : Who) where
  -- a slot whose own events say the same as before
  kept : (a : Act) (q : Reply) → Chosen (choice g st w a) q → (s i : ℕ) (r : Digest) (n : ℕ) → ¬ Empties (slot_of s i) w a → own s i ≡ Some (r, n) → held (change g st w a q).slots (slot_of s i) ≡ Some r
  kept a q c s i r n still is = slots_stay g st (record { who = w; act = a; reply = q; calls = 0 }) (slot_of s i) r c (shown s i r n is) still

  -- an event that says nothing of slots
  quiet : (s i : ℕ) (r : Digest) (n : ℕ) → (if w.session == s then own s i else own s i) ≡ Some (r, n) → own s i ≡ Some (r, n)
  quiet s i r n is = sym (same_either (w.session == s) (own s i)) ∙ is

  shown_opened : (slot : ℕ) (x : Digest) (m : ℕ) → Chosen (choice g st w (Open slot x)) (Opened m) → Shown (own_after own w (Open slot x) (Opened m)) (change g st w (Open slot x) (Opened m))
  shown_opened slot x m c s i r n is = pick (w.session == s) (slot == i) refl refl is
    where
      pick : (a b : Bool) → (w.session == s) ≡ a → (slot == i) ≡ b → (if a then (if b then Some (x, m) else own s i) else own s i) ≡ Some (r, n) → held (change g st w (Open slot x) (Opened m)).slots (slot_of s i) ≡ Some r
      pick true true e f is =
          let same : place_of w slot ≡ slot_of s i = (λ j. slot_of (eqb-true w.session s e j) (eqb-true slot i f j)) in
          let self : eq_by_cmp place_cmp (place_of w slot) (place_of w slot) ≡ true = (eq_by_cmp_equiv place_total).refl (place_of w slot) in
          ap (held (change g st w (Open slot x) (Opened m)).slots) (sym same)
          ∙ lookup-insert_entry place_total st.slots (place_of w slot) x (place_of w slot)
          ∙ ap (λ (b : Bool). cond b (Some x) (held st.slots (place_of w slot))) self ∙ same_root (x, m) (r, n) is
      pick true false e f is = kept (Open slot x) (Opened m) c s i r n (λ k. k) is
      pick false b e f is = kept (Open slot x) (Opened m) c s i r n (λ k. k) is

  shown_closed : (slot : ℕ) → Chosen (choice g st w (Close slot)) Closed → Shown (own_after own w (Close slot) Closed) (change g st w (Close slot) Closed)
  shown_closed slot c s i r n is = pick (w.session == s) (slot == i) refl refl is
    where
      pick : (a b : Bool) → (w.session == s) ≡ a → (slot == i) ≡ b → (if a then (if b then None else own s i) else own s i) ≡ Some (r, n) → held (change g st w (Close slot) Closed).slots (slot_of s i) ≡ Some r
      pick true true e f is = absurd (cc)
      pick true false e f is = kept (Close slot) Closed c s i r n (λ same. apart_bools (slot == i) f (eq-eqb slot i (ap (λ (p : Place). p.slot) same))) is
      pick false b e f is = kept (Close slot) Closed c s i r n (λ same. apart_bools (w.session == s) e (eq-eqb w.session s (ap (λ (p : Place). p.session) same))) is

  shown_open : (slot : ℕ) (x : Digest) (q : Reply) → Chosen (choice g st w (Open slot x)) q → Shown (own_after own w (Open slot x) q) (change g st w (Open slot x) q)
  shown_open slot x (Opened m) c = shown_opened slot x m c
  shown_open slot x q c = λ s i r n is. kept (Open slot x) q c s i r n (λ k. k) (quiet s i r n is)

  -- another reply of a close comes of an empty slot alone
  bad_close : (slot : ℕ) (q : Reply) → Chosen (choice g st w (Close slot)) q → (s i : ℕ) (r : Digest) (n : ℕ) → ¬ (q ≡ Closed) → own s i ≡ Some (r, n) → held (change g st w (Close slot) q).slots (slot_of s i) ≡ Some r
  bad_close slot q c s i r n other is =
      kept (Close slot) q c s i r n (λ same. other (closes (held st.slots (place_of w slot)) r q c (ap (held st.slots) same ∙ shown s i r n is))) is

  shown_close : (slot : ℕ) (q : Reply) → Chosen (choice g st w (Close slot)) q → Shown (own_after own w (Close slot) q) (change g st w (Close slot) q)
  shown_close slot Closed c = shown_closed slot c
  shown_close slot q c = λ s i r n is. bad_close slot q c s i r n (λ k. cc) (quiet s i r n is)

  shown_after : (a : Act) (q : Reply) → is_unmount a ≡ false → Chosen (choice g st w a) q → Shown (own_after own w a q) (change g st w a q)
  shown_after (Open slot x) q here c = shown_open slot x q c
  shown_after (Close slot) q here c = shown_close slot q c
  shown_after Unmount q here c = absurd (cc)
  shown_after a q here c = λ s i r n is. kept a q c s i r n (λ k. k) (quiet s i r n is)

-- ---- events one after another

shown_same : (own now : Slots) (st : State) → ((s i : ℕ) → now s i ≡ own s i) → Shown own st → Shown now st
shown_same own now st same k s i r n is = k s i r n (sym (same s i) ∙ is)

shown_all : (g : Setting) (st : State) (before es : List CoreEvent) → AreMounted es → Shown (owns before) st → Steps g st es → Shown (owns (before ++ es)) (state_after g st es)
shown_all g st before [] here k steps = subst (λ (xs : List CoreEvent). Shown (owns xs) st) (sym (append-nil before)) k
shown_all g st before (e ∷ es) here k steps =
    let step : Shown (owns (before ++ e ∷ [])) (after g st e) =
    shown_same (own_after (owns before) e.who e.act e.reply) (owns (before ++ e ∷ [])) (after g st e) (owns_more before e) (shown_after g st (owns before) k e.who e.act e.reply here.0 steps.0) in
    subst (λ (xs : List CoreEvent). Shown (owns xs) (state_after g (after g st e) es)) (append_assoc before (e ∷ []) es)
    (shown_all g (after g st e) (before ++ e ∷ []) es here.1 step steps.1)

pub shown_last : OwnSlotsAreHeld
shown_last h next s i r n legal here is =
    shown_all (setting_of h) (first_state (opening_map h) next) [] h.events here (λ s i r n is. absurd (cc)) legal.steps s i r n is
