-- What slots hold, step by step.
use Rattle.std.proofs.Common.{◌≡◌, ℕ, ◌==◌, Bool, true, false, cond, is_some, ◌||◌, Option, Some, None, List, [], ◌∷◌, ◌++◌, refl, sym, ap, ◌∙◌, subst, append_assoc, eq-eqb, arith}
use Rattle.std.specs.Prelude.{if◌then◌else◌, IsSomeAnd}
use Rattle.std.specs.Ordering.{eq_by_cmp}
use Rattle.std.specs.BTreeMap.{is_at}
use Rattle.std.specs.BTreeSet.{insert_key}
use Rattle.std.specs.Cmp.{eq_by_cmp_equiv}
use Rattle.std.specs.Map.{remove_entry}
use Rattle.std.proofs.lemmas.Bool.{eqb-true}
use Rattle.std.proofs.lemmas.List.{append-nil}
use Rattle.std.proofs.lemmas.List.Elements.{filter-append}
use Rattle.spec_tree.specs.declared.Digest.{Digest}
use Rattle.spec_tree.specs.declared.blob.Blob.{Blob}
use Rattle.spec_tree.specs.Order.{digest_cmp, same_digest}
use Rattle.spec_core.proofs.Counting.{none-left}
use Rattle.spec_core.proofs.Deeds.{Ready, alike, by_deed, ready}
use Rattle.spec_core.proofs.EntryLemmas.{lookup-insert_entry, lookup-remove_other}
use Rattle.spec_core.proofs.Holding.{Keeps, Keeps-change, changed-append, digest_total, find-purges, one_digest, same_self}
use Rattle.spec_core.proofs.Slots.{let_go_slots, one_place, place_total}
use Rattle.spec_core.specs.Change.{change, blob_of, emptied, opened}
use Rattle.spec_core.specs.Choice.{choice, open_choice, place_of}
use Rattle.spec_core.specs.Deeds.{deed_of, settle_deed, unlink_deed, sync_deed, unmount_deed}
use Rattle.spec_core.specs.History.{History, Legal, first_state, last_state, opening_map, setting_of}
use Rattle.spec_core.specs.Log.{changed, queued}
use Rattle.spec_core.specs.Order.{place_cmp}
use Rattle.spec_core.specs.State.{State, find, held, is_held, is_unlinked, present}
use Rattle.spec_core.specs.Step.{Chosen, Steps, after, state_after}
use Rattle.spec_core.specs.declared.act.Act.{Act}
use Rattle.spec_core.specs.declared.act.Act.TheVariants.{Settle, Open, Close, Unlink, Sync, Unmount}
use Rattle.spec_core.specs.declared.deed.Deed.{Deed}
use Rattle.spec_core.specs.declared.deed.Deed.TheVariants.{Nothing, Opens, Closes, Unlinks, Publishes, Purges, Empties}
use Rattle.spec_core.specs.declared.event.CoreEvent.{CoreEvent}
use Rattle.spec_core.specs.declared.map_change.MapChange.TheVariants.{Publish}
use Rattle.spec_core.specs.declared.place.Place.{Place}
use Rattle.spec_core.specs.declared.reply.Reply.{Reply}
use Rattle.spec_core.specs.declared.reply.Reply.TheVariants.{Opened, Closed, Published, Unlinked, Synced, Unmounted}
use Rattle.spec_core.specs.declared.setting.Setting.{Setting}
use Rattle.spec_core.specs.declared.who.Who.{Who}
use Rattle.spec_session.specs.Conform.{events_of}
use Rattle.spec_session.specs.Own.{Named, slot_after, slot_from, slot_holds}
use Rattle.spec_orderly.specs.Slots.{SlotsHoldTheirOwn, slot_of}
use Rattle.spec_orderly.proofs.Adding.{Fresh, Once, emptied_map, fresh_change, once_insert, once_remove, settles_new}

-- what each session's slots hold, by their own events
abbrev pub Slots : Type 0
Slots = ℕ → ℕ → Option Named

-- what they hold after one event more
abbrev pub own_after : Slots → Who → Act → Reply → Slots
own_after own w a q s i = if w.session == s then slot_after i (own s i) a q else own s i

abbrev Told : Slots → State → Type 0
Told own st = (s i : ℕ) (r : Digest) → held st.slots (slot_of s i) ≡ Some r → IsSomeAnd (find st.map r) (λ blob. own s i ≡ Some (r, blob.size))

pub record Holds (own : Slots) (st : State) : Type 0 where
  pub fresh : Fresh st
  pub keeps : Keeps st
  pub once : Once place_cmp st.slots
  pub told : Told own st

held_here : (slots : List (Place × Digest)) (p : Place) (r : Digest) → held slots p ≡ Some r → is_held slots r ≡ true
held_here [] p r h = cc
held_here (e ∷ es) p r h = go (is_at (place_cmp p) e.0) (held_here es p r) h
  where
    either : (b : Bool) → is_held es r ≡ true → (b || is_held es r) ≡ true
    either true e = refl
    either false e = e

    go : (b : Bool) → (held es p ≡ Some r → is_held es r ≡ true) → cond b (Some e.1) (held es p) ≡ Some r → (same_digest r e.1 || is_held es r) ≡ true
    go true later is = let self = same_self r in let same : e.1 ≡ r = cc in rw (same, self) refl
    go false later is = either (same_digest r e.1) (later is)

pub apart_bools : (b : Bool) → b ≡ false → b ≡ true → ⊥
apart_bools b off on = let apart : false ≡ true = sym off ∙ on in cc

-- ---- what a deed leaves of what slots hold

-- a deed that fills no slot, and publishes what is new
abbrev Able : State → Deed → Type 0
Able st (Opens p r) = ⊥
Able st (Publishes r) = find st.map r ≡ None
Able st _ = Unit {0}

-- a slot that holds a root held it before, and the map has the same blob there
abbrev Left : State → State → Type 0
Left st new = (p : Place) (r : Digest) → held new.slots p ≡ Some r → (held st.slots p ≡ Some r) × (find new.map r ≡ find st.map r)

module _ (g : Setting) (st : State) (keeps : Keeps st) (once : Once place_cmp st.slots) where
  purged_left : (p : Place) (r : Digest) → held st.slots p ≡ Some r → find (changed st.map (queued st)) r ≡ find st.map r
  purged_left p r is = find-purges st.map st.map st.queue r (keeps r (held_here st.slots p r is)).1

  published_left : (x : Digest) (b : Blob) → find st.map x ≡ None → (p : Place) (r : Digest) → held st.slots p ≡ Some r → find (changed st.map (queued st ++ Publish x b ∷ [])) r ≡ find st.map r
  published_left x b free p r is =
      ap (λ m. find m r) (changed-append st.map (queued st) (Publish x b ∷ []))
      ∙ lookup-insert_entry digest_total (changed st.map (queued st)) x b r ∙ pick (same_digest r x) refl
    where
      pick : (c : Bool) → same_digest r x ≡ c → cond c (Some b) (find (changed st.map (queued st)) r) ≡ find st.map r
      pick true e =
          let here = (keeps r (held_here st.slots p r is)).0 in
          let none : is_some (find st.map r) ≡ false = ap (λ (y : Digest). is_some (find st.map y)) (one_digest r x e) ∙ ap is_some free in cc
      pick false e = purged_left p r is

  emptied_left : (p : Place) (o : Option Digest) → held st.slots p ≡ o → (q : Place) (r : Digest) → held (emptied st p o).slots q ≡ Some r → (held st.slots q ≡ Some r) × ¬ (p ≡ q)
  emptied_left p None was q r is = (is, λ same. let e = ap (held st.slots) same in cc)
  emptied_left p (Some x) was q r is = pick (eq_by_cmp place_cmp p q) refl
    where
      less : held (remove_entry (is_at (place_cmp p)) st.slots) q ≡ Some r
      less = ap (λ slots. held slots q) (sym (let_go_slots (record st { slots = remove_entry (is_at (place_cmp p)) st.slots }) x)) ∙ is

      gone : p ≡ q → ⊥
      gone same =
          let still : held (remove_entry (is_at (place_cmp p)) st.slots) q ≡ Some r = less in
          let none : held (remove_entry (is_at (place_cmp p)) st.slots) p ≡ None = none-left (is_at (place_cmp p)) st.slots (once p) in
          let there = ap (held (remove_entry (is_at (place_cmp p)) st.slots)) same in cc

      pick : (b : Bool) → eq_by_cmp place_cmp p q ≡ b → (held st.slots q ≡ Some r) × ¬ (p ≡ q)
      pick true e = absurd (gone (one_place p q e))
      pick false e = (sym (lookup-remove_other place_total st.slots p q e) ∙ less, gone)

  unlinked_left : (x : Digest) → Left st (by_deed g st (Unlinks x))
  unlinked_left x = go (is_held st.slots x)
    where
      go : (b : Bool) → Left st (cond b (record st { leaving = insert_key digest_cmp st.leaving x }) (record st { queue = st.queue ++ x ∷ [] }))
      go true p r is = (is, refl)
      go false p r is = (is, refl)

  pub once_emptied : (p : Place) (o : Option Digest) → Once place_cmp (emptied st p o).slots
  once_emptied p None = once
  once_emptied p (Some x) =
      subst (λ (slots : List (Place × Digest)). Once place_cmp slots) (sym (let_go_slots (record st { slots = remove_entry (is_at (place_cmp p)) st.slots }) x)) (once_remove place_cmp st.slots p once)

  pub left : (d : Deed) → Able st d → Left st (by_deed g st d)
  left Nothing able p r is = (is, refl)
  left (Opens p x) able q r is = absurd able
  left (Closes x) able p r is = ((emptied_left x (held st.slots x) refl p r is).0, ap (λ m. find m r) (emptied_map st x (held st.slots x)))
  left (Unlinks x) able p r is = unlinked_left x p r is
  left (Publishes x) able p r is = (is, published_left x (blob_of g (find st.adds x)) able p r is)
  left Purges able p r is = (is, ap (λ m. find m r) (changed-append st.map (queued st) []) ∙ purged_left p r is)
  left (Empties true) able p r is = absurd (cc)
  left (Empties false) able p r is = absurd (cc)

-- ---- acts that fill no slot

-- it fills none
abbrev FillsNone : Act → Reply → Type 0
FillsNone (Open slot r) (Opened n) = ⊥
FillsNone a q = Unit {0}

settle_able : (st : State) (r : Digest) (q : Reply) → find st.map r ≡ None → Able st (settle_deed r q)
settle_able st r Published new = new
settle_able st r _ new = tt

open_able : (st : State) (w : Who) (slot : ℕ) (r : Digest) (q : Reply) → FillsNone (Open slot r) q → Able st (deed_of w (Open slot r) q)
open_able st w slot r (Opened n) none = none
open_able st w slot r _ none = tt

close_able : (st : State) (w : Who) (slot : ℕ) (q : Reply) → Able st (deed_of w (Close slot) q)
close_able st w slot Closed = tt
close_able st w slot _ = tt

unlink_able : (st : State) (r : Digest) (q : Reply) → Able st (unlink_deed r q)
unlink_able st r Unlinked = tt
unlink_able st r _ = tt

sync_able : (st : State) (q : Reply) → Able st (sync_deed q)
sync_able st Synced = tt
sync_able st _ = tt

unmount_able : (st : State) (q : Reply) → Able st (unmount_deed q)
unmount_able st Unmounted = tt
unmount_able st _ = tt

able : (g : Setting) (st : State) (w : Who) (a : Act) (q : Reply) → Fresh st → Chosen (choice g st w a) q → FillsNone a q → Able st (deed_of w a q)
able g st w (Settle r) q fresh c none = settle_able st r q (settles_new g st w r q fresh c)
able g st w (Open slot r) q fresh c none = open_able st w slot r q none
able g st w (Close slot) q fresh c none = close_able st w slot q
able g st w (Unlink r) q fresh c none = unlink_able st r q
able g st w Sync q fresh c none = sync_able st q
able g st w Unmount q fresh c none = unmount_able st q
able g st w _ q fresh c none = tt

left_after : (g : Setting) (st : State) (w : Who) (a : Act) (q : Reply) → Fresh st → Keeps st → Once place_cmp st.slots → Chosen (choice g st w a) q → FillsNone a q → Left st (change g st w a q)
left_after g st w a q fresh keeps once c none p r is =
    let same = alike g st w a q in
    let l = left g st keeps once (deed_of w a q) (able g st w a q fresh c none) p r (ap (λ slots. held slots p) (sym same.slots) ∙ is) in
    (l.0, ap (λ m. find m r) same.map ∙ l.1)

-- ---- what sessions know after an event

pub same_either : (b : Bool) (o : Option Named) → (if b then o else o) ≡ o
same_either true o = refl
same_either false o = refl

-- where a slot's own events say the same as before
told_left : (own : Slots) (st new : State) (now : Slots) → Told own st → Left st new → ((s i : ℕ) (r : Digest) → held new.slots (slot_of s i) ≡ Some r → now s i ≡ own s i) → Told now new
told_left own st new now told left same s i r is =
    let l = left (slot_of s i) r is in
    subst (λ (o : Option Blob). IsSomeAnd o (λ blob. now s i ≡ Some (r, blob.size))) (sym l.1)
    (subst (λ (o : Option Named). IsSomeAnd (find st.map r) (λ blob. o ≡ Some (r, blob.size))) (sym (same s i r is)) (told s i r l.0))

-- the place of an event, and another one
own_here : (s t i j : ℕ) (v o : Option Named) → t ≡ s → j ≡ i → (if t == s then (if j == i then v else o) else o) ≡ v
own_here s t i j v o same alike =
    let a = eq-eqb t s same in let b = eq-eqb j i alike in
    ap (λ (c : Bool). if c then (if j == i then v else o) else o) a ∙ ap (λ (c : Bool). if c then v else o) b

own_there : (s t i j : ℕ) (v o : Option Named) → ¬ (slot_of t j ≡ slot_of s i) → (if t == s then (if j == i then v else o) else o) ≡ o
own_there s t i j v o other = go (t == s) (j == i) refl refl
  where
    go : (b c : Bool) → (t == s) ≡ b → (j == i) ≡ c → (if b then (if c then v else o) else o) ≡ o
    go true true a e = absurd (other (ap (λ (n : ℕ). slot_of n j) (eqb-true t s a) ∙ ap (λ (n : ℕ). slot_of s n) (eqb-true j i e)))
    go true false a e = refl
    go false c a e = refl

opened_tells : (o : Option Blob) (slot : Option Digest) (n : ℕ) → Chosen (open_choice o slot) (Opened n) → (b : Blob) × (o ≡ Some b) × (n ≡ b.size)
opened_tells None slot n c = absurd (cc)
opened_tells (Some b) (Some r) n c = absurd (cc)
opened_tells (Some b) None n c = (b, refl, cc)

in_map : (b : Bool) (o : Option Blob) (blob : Blob) → cond b None o ≡ Some blob → o ≡ Some blob
in_map true o blob h = cc
in_map false o blob h = h

module _ (g : Setting) (st : State) (own : Slots) (k : Holds own st) (w : Who) where
  told_opened : (slot : ℕ) (x : Digest) (n : ℕ) → Chosen (choice g st w (Open slot x)) (Opened n) → Told (own_after own w (Open slot x) (Opened n)) (opened st (place_of w slot) x (Opened n))
  told_opened slot x n c s i r is = pick (eq_by_cmp place_cmp (slot_of s i) (place_of w slot)) refl (sym (lookup-insert_entry place_total st.slots (place_of w slot) x (slot_of s i)) ∙ is)
    where
      pick : (b : Bool) → eq_by_cmp place_cmp (slot_of s i) (place_of w slot) ≡ b → cond b (Some x) (held st.slots (slot_of s i)) ≡ Some r
          → IsSomeAnd (find st.map r) (λ blob. own_after own w (Open slot x) (Opened n) s i ≡ Some (r, blob.size))
      pick true e there =
          let same : slot_of s i ≡ place_of w slot = one_place (slot_of s i) (place_of w slot) e in
          let root : x ≡ r = cc in
          let t = opened_tells (present st x) (held st.slots (place_of w slot)) n c in
          let found : find st.map r ≡ Some t.0 = ap (find st.map) (sym root) ∙ in_map (is_unlinked st x) (find st.map x) t.0 t.1 in
          let mine : own_after own w (Open slot x) (Opened n) s i ≡ Some (r, t.0.size) =
          own_here s w.session i slot (Some (x, n)) (own s i) (sym (ap (λ (p : Place). p.session) same)) (sym (ap (λ (p : Place). p.slot) same))
          ∙ ap (λ (y : Digest). Some (y, n)) root ∙ ap (λ (m : ℕ). Some (r, m)) t.2 in
          subst (λ (o : Option Blob). IsSomeAnd o (λ blob. own_after own w (Open slot x) (Opened n) s i ≡ Some (r, blob.size))) (sym found) mine
      pick false e there =
          let apart : ¬ (place_of w slot ≡ slot_of s i) = λ same. let self = (eq_by_cmp_equiv place_total).refl (slot_of s i) in
          let other : eq_by_cmp place_cmp (slot_of s i) (slot_of s i) ≡ false = ap (λ (p : Place). eq_by_cmp place_cmp (slot_of s i) p) (sym same) ∙ e in apart_bools (eq_by_cmp place_cmp (slot_of s i) (slot_of s i)) other self in
          subst (λ (o : Option Named). IsSomeAnd (find st.map r) (λ blob. o ≡ Some (r, blob.size))) (sym (own_there s w.session i slot (Some (x, n)) (own s i) apart)) (k.told s i r there)

  told_closed : (slot : ℕ) → Chosen (choice g st w (Close slot)) Closed → Told (own_after own w (Close slot) Closed) (change g st w (Close slot) Closed)
  told_closed slot c =
      told_left own st (change g st w (Close slot) Closed) (own_after own w (Close slot) Closed) k.told (left_after g st w (Close slot) Closed k.fresh k.keeps k.once c tt)
      (λ s i r is. own_there s w.session i slot None (own s i) (emptied_left g st k.keeps k.once (place_of w slot) (held st.slots (place_of w slot)) refl (slot_of s i) r is).1)

  told_quiet : (a : Act) (q : Reply) → ((i : ℕ) (o : Option Named) → slot_after i o a q ≡ o) → FillsNone a q → Chosen (choice g st w a) q → Told (own_after own w a q) (change g st w a q)
  told_quiet a q quiet none c =
      told_left own st (change g st w a q) (own_after own w a q) k.told (left_after g st w a q k.fresh k.keeps k.once c none)
      (λ s i r is. ap (λ (o : Option Named). if w.session == s then o else own s i) (quiet i (own s i)) ∙ same_either (w.session == s) (own s i))

  told_open : (slot : ℕ) (x : Digest) (q : Reply) → Chosen (choice g st w (Open slot x)) q → Told (own_after own w (Open slot x) q) (change g st w (Open slot x) q)
  told_open slot x (Opened n) c = told_opened slot x n c
  told_open slot x q c = told_quiet (Open slot x) q (λ i o. refl) tt c

  told_close : (slot : ℕ) (q : Reply) → Chosen (choice g st w (Close slot)) q → Told (own_after own w (Close slot) q) (change g st w (Close slot) q)
  told_close slot Closed c = told_closed slot c
  told_close slot q c = told_quiet (Close slot) q (λ i o. refl) tt c

  told_after : (a : Act) (q : Reply) → Chosen (choice g st w a) q → Told (own_after own w a q) (change g st w a q)
  told_after (Open slot x) q c = told_open slot x q c
  told_after (Close slot) q c = told_close slot q c
  told_after a q c = told_quiet a q (λ i o. refl) tt c

  once_left : (d : Deed) → Ready st d → Once place_cmp (by_deed g st d).slots
  once_left Nothing r = k.once
  once_left (Opens p x) free = once_insert place_cmp one_place st.slots p x free k.once
  once_left (Closes p) r = once_emptied g st k.keeps k.once p (held st.slots p)
  once_left (Unlinks x) r = go (is_held st.slots x)
    where
      go : (b : Bool) → Once place_cmp (cond b (record st { leaving = insert_key digest_cmp st.leaving x }) (record st { queue = st.queue ++ x ∷ [] })).slots
      go true = k.once
      go false = k.once
  once_left (Publishes x) r = k.once
  once_left Purges r = k.once
  once_left (Empties true) r = λ p. omega arith
  once_left (Empties false) r = λ p. omega arith

  holds_after : (a : Act) (q : Reply) → Chosen (choice g st w a) q → Holds (own_after own w a q) (change g st w a q)
  holds_after a q c = record {
    fresh = fresh_change g st w a q k.fresh c;
    keeps = Keeps-change st k.keeps g w a q c;
    once = subst (λ (slots : List (Place × Digest)). Once place_cmp slots) (sym (alike g st w a q).slots) (once_left (deed_of w a q) (ready g st w a q c));
    told = told_after a q c;
  }

-- ---- events one after another

-- what sessions' slots hold after these events
abbrev pub owns : List CoreEvent → Slots
owns before s i = slot_holds i (events_of s before)

slot_from-append : (i : ℕ) (o : Option Named) (es fs : List CoreEvent) → slot_from i o (es ++ fs) ≡ slot_from i (slot_from i o es) fs
slot_from-append i o [] fs = refl
slot_from-append i o (e ∷ es) fs = slot_from-append i (slot_after i o e.act e.reply) es fs

pub owns_more : (before : List CoreEvent) (e : CoreEvent) (s i : ℕ) → owns (before ++ e ∷ []) s i ≡ own_after (owns before) e.who e.act e.reply s i
owns_more before e s i = ap (slot_holds i) (filter-append (λ (x : CoreEvent). x.who.session == s) before (e ∷ [])) ∙ by_test (e.who.session == s)
  where
    by_test : (b : Bool) → slot_holds i (events_of s before ++ cond b (e ∷ []) []) ≡ (if b then slot_after i (owns before s i) e.act e.reply else owns before s i)
    by_test true = slot_from-append i None (events_of s before) (e ∷ [])
    by_test false = ap (slot_holds i) (append-nil (events_of s before))

holds_same : (own now : Slots) (st : State) → ((s i : ℕ) → now s i ≡ own s i) → Holds own st → Holds now st
holds_same own now st same k = record {
  fresh = k.fresh;
  keeps = k.keeps;
  once = k.once;
  told = told_left own st st now k.told (λ p r is. (is, refl)) (λ s i r is. same s i);
}

holds_all : (g : Setting) (st : State) (before es : List CoreEvent) → Holds (owns before) st → Steps g st es → Holds (owns (before ++ es)) (state_after g st es)
holds_all g st before [] k steps = subst (λ (xs : List CoreEvent). Holds (owns xs) st) (sym (append-nil before)) k
holds_all g st before (e ∷ es) k steps =
    let step : Holds (owns (before ++ e ∷ [])) (after g st e) =
    holds_same (own_after (owns before) e.who e.act e.reply) (owns (before ++ e ∷ [])) (after g st e) (owns_more before e) (holds_after g st (owns before) k e.who e.act e.reply steps.0) in
    subst (λ (xs : List CoreEvent). Holds (owns xs) (state_after g (after g st e) es)) (append_assoc before (e ∷ []) es)
    (holds_all g (after g st e) (before ++ e ∷ []) es step steps.1)

-- of a legal history
pub holds_last : (h : History) (next : ℕ) → Legal h next → Holds (owns h.events) (last_state h next)
holds_last h next legal =
    holds_all (setting_of h) (first_state (opening_map h) next) [] h.events
    (record {
      fresh = record { once = λ r. omega arith; new = λ r e. cc };
      keeps = λ r e. cc;
      once = λ p. omega arith;
      told = λ s i r is. absurd (cc);
    }) legal.steps

pub held_last : SlotsHoldTheirOwn
held_last h next s i r legal is = (holds_last h next legal).told s i r is
