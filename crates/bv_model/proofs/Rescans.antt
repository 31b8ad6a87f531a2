-- What a deed does, as the calls that go over a history count it.
use Rattle.std.proofs.Common.{◌≡◌, ℕ, ◌+◌, ◌-◌, ◌≤◌, ◌<◌, ◌==◌, Bool, true, false, cond, not, ◌&&◌, ◌||◌, Option, Some, None, List, [], ◌∷◌, ◌++◌, length, take, drop, get_or, refl, ap, sym, ◌∙◌, arith}
use Rattle.std.specs.Ordering.{eq_by_cmp}
use Rattle.std.specs.Cmp.{eq_by_cmp_equiv}
use Rattle.std.specs.List.{count_by}
use Rattle.std.specs.BTreeMap.{insert_entry, is_at}
use Rattle.std.specs.BTreeSet.{insert_key}
use Rattle.std.specs.Map.{remove_entry}
use Rattle.std.specs.Set.{remove_key}
use Rattle.std.proofs.lemmas.List.{take_all, take_more, take-append-drop}
use Rattle.spec_tree.specs.declared.Digest.{Digest}
use Rattle.spec_tree.specs.Order.{digest_cmp, same_digest}
use Rattle.spec_core.proofs.Counting.{not_among, count-insert_entry, count-remove_entry-le, none-counted, none-left, count-insert_key-le, count-remove_key, any-insert_key}
use Rattle.spec_core.proofs.Deeds.{by_deed, alike, its_deed, ready, Ready}
use Rattle.spec_core.proofs.EntryLemmas.{lookup-insert_entry, lookup-remove_other}
use Rattle.spec_core.proofs.Histories.{state_after-push, Steps-front, Steps-pop}
use Rattle.spec_core.proofs.Holding.{one_digest}
use Rattle.spec_core.proofs.Leaving.{is_held_by_count, less, holders_less, leaving_let_go}
use Rattle.spec_core.proofs.Slots.{place_total, one_place, let_go_slots}
use Rattle.spec_core.specs.Change.{let_go, emptied, unlinked}
use Rattle.spec_core.specs.History.{History, setting_of, opening_map, first_state, last_state, Legal}
use Rattle.spec_core.specs.Order.{place_cmp}
use Rattle.spec_core.specs.Deeds.{deed_of}
use Rattle.bv_model.specs.Rescan.{state_at, held_next, standing_in, standing_next, less_one, is_root, closed_root}
use Rattle.spec_core.specs.State.{State, among, held, holders, is_held}
use Rattle.spec_core.specs.Step.{Fits, after, state_after, Steps}
use Rattle.spec_core.specs.declared.event.CoreEvent.{CoreEvent}
use Rattle.spec_core.specs.declared.deed.Deed.{Deed}
use Rattle.spec_core.specs.declared.deed.Deed.TheVariants.{Nothing, Opens, Closes, Unlinks, Publishes, Purges, Empties}
use Rattle.spec_core.specs.declared.place.Place.{Place}
use Rattle.spec_core.specs.declared.reply.Reply.TheVariants.{Unlinked}
use Rattle.spec_core.specs.declared.setting.Setting.{Setting}

-- a place is once in the slots, and a root once among those that leave
pub record Tidy (s : State) : Type 0 where
  pub places : (p : Place) → count_by (λ e. is_at (place_cmp p) e.0) s.slots ≤ 1
  pub roots : (r : Digest) → count_by (same_digest r) s.leaving ≤ 1

-- ---- slots

at_most_none : (b : Bool) (n : ℕ) → n ≤ 1 → (b ≡ true → n ≡ 0) → cond b 1 0 + n ≤ 1
at_most_none true n h f = omega (arith, f refl)
at_most_none false n h f = omega (arith, h)

opened_places : (s : State) (p : Place) (r : Digest) → Tidy s → held s.slots p ≡ None → (q : Place) → count_by (λ e. is_at (place_cmp q) e.0) (insert_entry place_cmp s.slots p r) ≤ 1
opened_places s p r t free q =
    rw (count-insert_entry (λ e. is_at (place_cmp q) e.0) place_cmp s.slots p r free)
    (at_most_none (eq_by_cmp place_cmp q p) _ (t.places q) (λ e. none-counted (is_at (place_cmp q)) s.slots (ap (held s.slots) (one_place q p e) ∙ free)))

-- what is held once a place is emptied
held_less : (s : State) (t : Tidy s) (p q : Place) → held (remove_entry (is_at (place_cmp q)) s.slots) p ≡ cond (eq_by_cmp place_cmp p q) None (held s.slots p)
held_less s t p q = go (eq_by_cmp place_cmp p q) refl
  where
    go : (b : Bool) → eq_by_cmp place_cmp p q ≡ b → held (remove_entry (is_at (place_cmp q)) s.slots) p ≡ cond b None (held s.slots p)
    go true e = ap (λ (x : Place). held (remove_entry (is_at (place_cmp x)) s.slots) p) (sym (one_place p q e)) ∙ none-left (is_at (place_cmp p)) s.slots (t.places p)
    go false e = lookup-remove_other place_total s.slots q p ((eq_by_cmp_equiv place_total).symm q p ∙ e)

held_emptied : (s : State) (t : Tidy s) (p q : Place) (o : Option Digest) → held s.slots q ≡ o → held (emptied s q o).slots p ≡ cond (eq_by_cmp place_cmp p q) None (held s.slots p)
held_emptied s t p q (Some x) h =
    ap (λ slots. held slots p) (let_go_slots (record s { slots = remove_entry (is_at (place_cmp q)) s.slots }) x) ∙ held_less s t p q
held_emptied s t p q None h = go (eq_by_cmp place_cmp p q) refl
  where
    go : (b : Bool) → eq_by_cmp place_cmp p q ≡ b → held s.slots p ≡ cond b None (held s.slots p)
    go true e = ap (held s.slots) (one_place p q e) ∙ h
    go false e = refl

unlinked_slots : (s : State) (r : Digest) → (unlinked s r Unlinked).slots ≡ s.slots
unlinked_slots s r = go (is_held s.slots r)
  where
    go : (b : Bool) → (cond b (record s { leaving = insert_key digest_cmp s.leaving r }) (record s { queue = s.queue ++ r ∷ [] })).slots ≡ s.slots
    go true = refl
    go false = refl

pub held_by_deed : (g : Setting) (s : State) (d : Deed) (p : Place) → Tidy s → held (by_deed g s d).slots p ≡ held_next p (held s.slots p) d
held_by_deed g s Nothing p t = refl
held_by_deed g s (Opens q r) p t = lookup-insert_entry place_total s.slots q r p
held_by_deed g s (Closes q) p t = held_emptied s t p q (held s.slots q) refl
held_by_deed g s (Unlinks r) p t = ap (λ slots. held slots p) (unlinked_slots s r)
held_by_deed g s (Publishes r) p t = refl
held_by_deed g s Purges p t = refl
held_by_deed g s (Empties true) p t = refl
held_by_deed g s (Empties false) p t = refl

-- ---- how a root stands

-- how a root stands once a place that held x is emptied
standing_emptied : (s : State) (t : Tidy s) (p : Place) (o : Option Digest) (r : Digest) → held s.slots p ≡ o → standing_in (emptied s p o) r ≡ cond (is_root r o) (less_one (standing_in s r)) (standing_in s r)
standing_emptied s t p None r h = refl
standing_emptied s t p (Some x) r h =
    let u : State = less s p x h in
    ap (λ (n : ℕ). record { holders = n; leaving = among (let_go u x).leaving r }) (ap (λ slots. holders slots r) (let_go_slots u x)) ∙ ap (λ (b : Bool). record { holders = holders u.slots r; leaving = b }) (leaving_let_go u x r (t.roots x)) ∙ go (same_digest r x) (holders_less s p x h r)
  where
    go : (b : Bool) → holders (less s p x h).slots r + cond b 1 0 ≡ holders s.slots r → record { holders = holders (less s p x h).slots r; leaving = cond b (among s.leaving r && is_held (less s p x h).slots r) (among s.leaving r) } ≡ cond b (less_one (standing_in s r)) (standing_in s r)
    go true e =
        let fewer : holders (less s p x h).slots r ≡ holders s.slots r - 1 = omega (arith, e) in
        rw (is_held_by_count (less s p x h) r, fewer) refl
    go false e =
        let same : holders (less s p x h).slots r ≡ holders s.slots r = omega (arith, e) in
        ap (λ (n : ℕ). record { holders = n; leaving = among s.leaving r }) same

standing_opened : (s : State) (p : Place) (x r : Digest) → held s.slots p ≡ None → (b : Bool) → same_digest r x ≡ b → standing_in (record s { slots = insert_entry place_cmp s.slots p x }) r ≡ cond b (record (standing_in s r) { holders = holders s.slots r + 1 }) (standing_in s r)
standing_opened s p x r free b e = go b (count-insert_entry (λ e. same_digest r e.1) place_cmp s.slots p x free ∙ ap (λ (c : Bool). cond c 1 0 + holders s.slots r) e)
  where
    go : (b : Bool) → holders (insert_entry place_cmp s.slots p x) r ≡ cond b 1 0 + holders s.slots r → standing_in (record s { slots = insert_entry place_cmp s.slots p x }) r ≡ cond b (record (standing_in s r) { holders = holders s.slots r + 1 }) (standing_in s r)
    go true h = let more : holders (insert_entry place_cmp s.slots p x) r ≡ holders s.slots r + 1 = omega (arith, h) in ap (λ (n : ℕ). record { holders = n; leaving = among s.leaving r }) more
    go false h = let more : holders (insert_entry place_cmp s.slots p x) r ≡ holders s.slots r = omega (arith, h) in ap (λ (n : ℕ). record { holders = n; leaving = among s.leaving r }) more

standing_unlinked : (s : State) (x r : Digest) → among s.leaving x ≡ false → standing_in (unlinked s x Unlinked) r ≡ cond (same_digest r x) (record (standing_in s r) { leaving = among s.leaving r || not (holders s.slots r == 0) }) (standing_in s r)
standing_unlinked s x r free = go (is_held s.slots x) refl (same_digest r x) refl
  where
    go : (c : Bool) → is_held s.slots x ≡ c → (b : Bool) → same_digest r x ≡ b → standing_in (cond c (record s { leaving = insert_key digest_cmp s.leaving x }) (record s { queue = s.queue ++ x ∷ [] })) r ≡ cond b (record (standing_in s r) { leaving = among s.leaving r || not (holders s.slots r == 0) }) (standing_in s r)
    go true h b e =
        ap (λ (l : Bool). record { holders = holders s.slots r; leaving = l }) (any-insert_key (same_digest r) digest_cmp s.leaving x free ∙ ap (λ (c : Bool). c || among s.leaving r) e) ∙ pick b e
      where
        pick : (b : Bool) → same_digest r x ≡ b → record { holders = holders s.slots r; leaving = b || among s.leaving r } ≡ cond b (record (standing_in s r) { leaving = among s.leaving r || not (holders s.slots r == 0) }) (standing_in s r)
        pick true e = rw (one_digest r x e, free, ← is_held_by_count s x, h) refl
        pick false e = refl
    go false h true e = rw (one_digest r x e, free, ← is_held_by_count s x, h) refl
    go false h false e = refl

pub standing_by_deed : (g : Setting) (s : State) (d : Deed) (r : Digest) → Tidy s → Ready s d → standing_in (by_deed g s d) r ≡ standing_next r (standing_in s r) (closed_root s d) d
standing_by_deed g s Nothing r t a = refl
standing_by_deed g s (Opens p x) r t a = standing_opened s p x r a (same_digest r x) refl
standing_by_deed g s (Closes p) r t a = standing_emptied s t p (held s.slots p) r refl
standing_by_deed g s (Unlinks x) r t a = standing_unlinked s x r a.1
standing_by_deed g s (Publishes x) r t a = refl
standing_by_deed g s Purges r t a = refl
standing_by_deed g s (Empties true) r t a = refl
standing_by_deed g s (Empties false) r t a = refl

-- ---- the order in which they are kept

tidy_let_go : (s : State) (x : Digest) → Tidy s → Tidy (let_go s x)
tidy_let_go s x t = go (among s.leaving x && not (is_held s.slots x)) refl
  where
    go : (b : Bool) → (among s.leaving x && not (is_held s.slots x)) ≡ b → Tidy (cond b (record s { leaving = remove_key (is_at (digest_cmp x)) s.leaving; queue = s.queue ++ x ∷ [] }) s)
    go true e = record { places = t.places; roots = λ r. omega (arith, t.roots r, count-remove_key (same_digest r) (is_at (digest_cmp x)) x (one_digest x) s.leaving (both (among s.leaving x) _ e)) }
      where
        both : (a b : Bool) → (a && b) ≡ true → a ≡ true
        both true b h = refl
        both false b h = cc
    go false e = record { places = t.places; roots = t.roots }

tidy_emptied : (s : State) (p : Place) (o : Option Digest) → Tidy s → Tidy (emptied s p o)
tidy_emptied s p (Some x) t =
    tidy_let_go (record s { slots = remove_entry (is_at (place_cmp p)) s.slots }) x (record { places = λ q. omega (arith, t.places q, count-remove_entry-le (λ e. is_at (place_cmp q) e.0) (is_at (place_cmp p)) s.slots); roots = t.roots })
tidy_emptied s p None t = t

tidy_unlinked : (s : State) (x : Digest) → Tidy s → among s.leaving x ≡ false → Tidy (unlinked s x Unlinked)
tidy_unlinked s x t free = go (is_held s.slots x)
  where
    go : (c : Bool) → Tidy (cond c (record s { leaving = insert_key digest_cmp s.leaving x }) (record s { queue = s.queue ++ x ∷ [] }))
    go true = record {
      places = t.places;
      roots = λ r. omega (arith, count-insert_key-le (same_digest r) digest_cmp s.leaving x, at_most_none (same_digest r x) _ (t.roots r) (λ e. not_among (same_digest r) s.leaving (ap (among s.leaving) (one_digest r x e) ∙ free)));
    }
    go false = record { places = t.places; roots = t.roots }

none_tidy : (s : State) → s.slots ≡ [] → s.leaving ≡ [] → Tidy s
none_tidy s h e = record { places = λ p. rw h (omega arith); roots = λ r. rw e (omega arith) }

tidy_by_deed : (g : Setting) (s : State) (d : Deed) → Tidy s → Ready s d → Tidy (by_deed g s d)
tidy_by_deed g s Nothing t a = t
tidy_by_deed g s (Opens p x) t a = record { places = opened_places s p x t a; roots = t.roots }
tidy_by_deed g s (Closes p) t a = tidy_emptied s p (held s.slots p) t
tidy_by_deed g s (Unlinks x) t a = tidy_unlinked s x t a.1
tidy_by_deed g s (Publishes x) t a = record { places = t.places; roots = t.roots }
tidy_by_deed g s Purges t a = record { places = t.places; roots = t.roots }
tidy_by_deed g s (Empties true) t a = none_tidy (by_deed g s (Empties true)) refl refl
tidy_by_deed g s (Empties false) t a = none_tidy (by_deed g s (Empties false)) refl refl

pub tidy_after : (g : Setting) (s : State) (e : CoreEvent) → Tidy s → Fits g s e → Tidy (after g s e)
tidy_after g s e t f =
    let d : Deed = deed_of e.who e.act e.reply in
    let u = tidy_by_deed g s d t (ready g s e.who e.act e.reply f) in
    let same = alike g s e.who e.act e.reply in
    record { places = λ p. rw same.slots (u.places p); roots = λ r. rw same.leaving (u.roots r) }

pub tidy_run : (g : Setting) (s : State) (es : List CoreEvent) → Tidy s → Steps g s es → Tidy (state_after g s es)
tidy_run g s [] t a = t
tidy_run g s (e ∷ es) t a = tidy_run g (after g s e) es (tidy_after g s e t a.0) a.1

-- ---- the first events of a history

module _ (h : History) (next : ℕ) (legal : Legal h next) where
  pub steps_to : (i : ℕ) → Steps (setting_of h) (first_state (opening_map h) next) (take i h.events)
  steps_to i = Steps-front (setting_of h) (first_state (opening_map h) next) (take i h.events) (drop i h.events) (rw (take-append-drop i h.events) legal.steps)

  pub tidy_at : (i : ℕ) → Tidy (state_at h next i)
  tidy_at i = tidy_run (setting_of h) (first_state (opening_map h) next) (take i h.events) (none_tidy (first_state (opening_map h) next) refl refl) (steps_to i)

  pub fits_at : (i : ℕ) (d : CoreEvent) → i < length h.events → Fits (setting_of h) (state_at h next i) (get_or h.events i d)
  fits_at i d short = (Steps-pop (setting_of h) (first_state (opening_map h) next) (take i h.events) (get_or h.events i d) (rw (← take_more h.events i d short) (steps_to (i + 1)))).1

pub state_more : (h : History) (next i : ℕ) (d : CoreEvent) → i < length h.events → state_at h next (i + 1) ≡ after (setting_of h) (state_at h next i) (get_or h.events i d)
state_more h next i d short = ap (state_after (setting_of h) (first_state (opening_map h) next)) (take_more h.events i d short) ∙ state_after-push (setting_of h) (first_state (opening_map h) next) (take i h.events) (get_or h.events i d)

pub state_at_end : (h : History) (next i : ℕ) → i ≡ length h.events → state_at h next i ≡ last_state h next
state_at_end h next i e = ap (λ es. state_after (setting_of h) (first_state (opening_map h) next) es) (ap (λ n. take n h.events) e ∙ take_all (length h.events) h.events (omega arith))

pub held_more : (h : History) (next i : ℕ) (d : CoreEvent) (p : Place) → Legal h next → i < length h.events → held (state_at h next (i + 1)).slots p ≡ held_next p (held (state_at h next i).slots p) (its_deed (get_or h.events i d))
held_more h next i d p legal short =
    let s : State = state_at h next i in
    let e : CoreEvent = get_or h.events i d in
    ap (λ (u : State). held u.slots p) (state_more h next i d short) ∙ ap (λ slots. held slots p) (alike (setting_of h) s e.who e.act e.reply).slots ∙ held_by_deed (setting_of h) s (its_deed e) p (tidy_at h next legal i)

pub standing_more : (h : History) (next i : ℕ) (d : CoreEvent) (r : Digest) → Legal h next → i < length h.events → standing_in (state_at h next (i + 1)) r ≡ standing_next r (standing_in (state_at h next i) r) (closed_root (state_at h next i) (its_deed (get_or h.events i d))) (its_deed (get_or h.events i d))
standing_more h next i d r legal short =
    let s : State = state_at h next i in
    let e : CoreEvent = get_or h.events i d in
    let same = alike (setting_of h) s e.who e.act e.reply in
    ap (λ (u : State). standing_in u r) (state_more h next i d short) ∙ ap (λ slots. record { holders = holders slots r; leaving = among (after (setting_of h) s e).leaving r }) same.slots ∙ ap (λ roots. record { holders = holders (by_deed (setting_of h) s (its_deed e)).slots r; leaving = among roots r }) same.leaving ∙ standing_by_deed (setting_of h) s (its_deed e) r (tidy_at h next legal i) (ready (setting_of h) s e.who e.act e.reply (fits_at h next legal i d short))
