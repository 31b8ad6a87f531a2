-- A root that leaves is held by some slot.
use Rattle.std.proofs.Common.{◌≡◌, ℕ, ◌+◌, ◌≤◌, ◌==◌, is_some, Bool, true, false, cond, not, ◌&&◌, Option, Some, None, List, [], ◌∷◌, ◌++◌, refl, ap, sym, ◌∙◌, arith}
use Rattle.std.specs.BTreeMap.{insert_entry, is_at}
use Rattle.std.specs.BTreeSet.{insert_key}
use Rattle.std.specs.Map.{remove_entry}
use Rattle.std.specs.Set.{remove_key}
use Rattle.spec_tree.specs.declared.Digest.{Digest}
use Rattle.spec_tree.specs.Order.{digest_cmp, same_digest}
use Rattle.spec_core.proofs.Counting.{any-count, not_zero, count-insert_entry, count-remove_entry, count-remove_key, any-insert_key, any-remove_other}
use Rattle.spec_core.proofs.Deeds.{by_deed, alike, ready, Ready, its_deed}
use Rattle.spec_core.proofs.Holding.{one_digest, same_self, or_true}
use Rattle.spec_core.proofs.Once.{Once, once_after, once_first, at_most_one, times}
use Rattle.spec_core.proofs.Slots.{let_go_slots}
use Rattle.spec_core.specs.Change.{let_go, emptied, unlinked}
use Rattle.spec_core.specs.History.{setting_of, opening_map, first_state}
use Rattle.spec_core.specs.Laws.{LeavingRootsAreHeld}
use Rattle.spec_core.specs.Order.{place_cmp}
use Rattle.spec_core.specs.State.{State, find, among, held, holders, is_held}
use Rattle.spec_core.specs.Step.{Fits, after, state_after, Steps}
use Rattle.spec_core.specs.declared.deed.Deed.{Deed}
use Rattle.spec_core.specs.declared.deed.Deed.TheVariants.{Nothing, Opens, Closes, Unlinks, Publishes, Purges, Empties}
use Rattle.spec_core.specs.declared.event.CoreEvent.{CoreEvent}
use Rattle.spec_core.specs.declared.place.Place.{Place}
use Rattle.spec_core.specs.declared.reply.Reply.TheVariants.{Unlinked}
use Rattle.spec_core.specs.declared.setting.Setting.{Setting}

-- one slot less
module _ (s : State) (p : Place) (x : Digest) (was : held s.slots p ≡ Some x) where
  abbrev pub less : State
  less = record s { slots = remove_entry (is_at (place_cmp p)) s.slots }

  pub holders_less : (r : Digest) → holders less.slots r + cond (same_digest r x) 1 0 ≡ holders s.slots r
  holders_less r = count-remove_entry (same_digest r) (is_at (place_cmp p)) s.slots x was

pub is_held_by_count : (s : State) (r : Digest) → is_held s.slots r ≡ not (holders s.slots r == 0)
is_held_by_count s r = any-count (λ e. same_digest r e.1) s.slots

-- a root that leaves once is gone when it is let go
gone : (s : State) (x : Digest) → times x s.leaving ≤ 1 → among s.leaving x ≡ true → among (remove_key (is_at (digest_cmp x)) s.leaving) x ≡ false
gone s x once here = any-count (same_digest x) (remove_key (is_at (digest_cmp x)) s.leaving) ∙ none _ (omega (arith, once, removed))
  where
    none : (n : ℕ) → n ≡ 0 → not (n == 0) ≡ false
    none n h = rw h refl

    removed : times x (remove_key (is_at (digest_cmp x)) s.leaving) + 1 ≡ times x s.leaving
    removed = ap (λ (b : Bool). times x (remove_key (is_at (digest_cmp x)) s.leaving) + cond b 1 0) (sym (same_self x)) ∙ count-remove_key (same_digest x) (is_at (digest_cmp x)) x (one_digest x) s.leaving here

still_there : (s : State) (x r : Digest) → same_digest r x ≡ false → among (remove_key (is_at (digest_cmp x)) s.leaving) r ≡ among s.leaving r
still_there s x r apart = any-remove_other (same_digest r) (is_at (digest_cmp x)) (λ y e. ap (same_digest r) (sym (one_digest x y e)) ∙ apart) s.leaving

-- the leaving roots after x is let go, where this tells whether some slot holds it
pub leaving_let_go : (s : State) (x r : Digest) → times x s.leaving ≤ 1 → among (let_go s x).leaving r ≡ cond (same_digest r x) (among s.leaving r && is_held s.slots r) (among s.leaving r)
leaving_let_go s x r once = go (among s.leaving x) (is_held s.slots x) refl refl
  where
    go : (b c : Bool) → among s.leaving x ≡ b → is_held s.slots x ≡ c → among (cond (b && not c) (record s { leaving = remove_key (is_at (digest_cmp x)) s.leaving; queue = s.queue ++ x ∷ [] }) s).leaving r ≡ cond (same_digest r x) (among s.leaving r && is_held s.slots r) (among s.leaving r)
    go true false e h = pick (same_digest r x) refl
      where
        pick : (d : Bool) → same_digest r x ≡ d → among (remove_key (is_at (digest_cmp x)) s.leaving) r ≡ cond d (among s.leaving r && is_held s.slots r) (among s.leaving r)
        pick true j = rw (one_digest r x j) (rw (e, h) (gone s x once e))
        pick false j = still_there s x r j
    go true true e h = pick (same_digest r x) refl
      where
        pick : (d : Bool) → same_digest r x ≡ d → among s.leaving r ≡ cond d (among s.leaving r && is_held s.slots r) (among s.leaving r)
        pick true j = rw (one_digest r x j) (rw (e, h) refl)
        pick false j = refl
    go false c e h = pick (same_digest r x) refl
      where
        pick : (d : Bool) → same_digest r x ≡ d → among s.leaving r ≡ cond d (among s.leaving r && is_held s.slots r) (among s.leaving r)
        pick true j = rw (one_digest r x j) (rw e refl)
        pick false j = refl

-- ---- the invariant

-- each root that leaves is held by some slot
abbrev LeavesHeld : State → Type 0
LeavesHeld s = (r : Digest) → among s.leaving r ≡ true → is_held s.slots r ≡ true

-- a root with as many holders, or one more, is held as before
held_more : (s t : State) (r : Digest) (b : Bool) → holders t.slots r ≡ cond b 1 0 + holders s.slots r → is_held s.slots r ≡ true → is_held t.slots r ≡ true
held_more s t r b e h = is_held_by_count t r ∙ ap (λ (n : ℕ). not (n == 0)) e ∙ go b
  where
    go : (b : Bool) → not (cond b 1 0 + holders s.slots r == 0) ≡ true
    go true = one (holders s.slots r)
      where
        one : (n : ℕ) → not (1 + n == 0) ≡ true
        one n = rw (not_zero n) refl
    go false = let same : 0 + holders s.slots r ≡ holders s.slots r = omega arith in ap (λ (n : ℕ). not (n == 0)) same ∙ sym (is_held_by_count s r) ∙ h

opened_held : (s : State) (p : Place) (x : Digest) → held s.slots p ≡ None → LeavesHeld s → LeavesHeld (record s { slots = insert_entry place_cmp s.slots p x })
opened_held s p x free k r h =
    held_more s (record s { slots = insert_entry place_cmp s.slots p x }) r (same_digest r x) (count-insert_entry (λ e. same_digest r e.1) place_cmp s.slots p x free) (k r h)

emptied_held : (s : State) (p : Place) (o : Option Digest) → held s.slots p ≡ o → Once s → LeavesHeld s → LeavesHeld (emptied s p o)
emptied_held s p None e once k r h = k r h
emptied_held s p (Some x) e once k r h =
    ap (λ slots. is_held slots r) (let_go_slots (less s p x e) x) ∙ go (same_digest r x) (holders_less s p x e r) (sym (leaving_let_go (less s p x e) x r (omega (arith, once x, at_most_one (is_some (find s.map x))))) ∙ h)
  where
    kept : (a b : Bool) → (a && b) ≡ true → b ≡ true
    kept true b h = h
    kept false b h = cc

    go : (b : Bool) → holders (less s p x e).slots r + cond b 1 0 ≡ holders s.slots r → cond b (among s.leaving r && is_held (less s p x e).slots r) (among s.leaving r) ≡ true → is_held (less s p x e).slots r ≡ true
    go true n l = kept (among s.leaving r) _ l
    go false n l = held_more s (less s p x e) r false (omega (arith, n)) (k r l)

unlinked_held : (s : State) (x : Digest) → among s.leaving x ≡ false → LeavesHeld s → LeavesHeld (unlinked s x Unlinked)
unlinked_held s x free k = go (is_held s.slots x) refl
  where
    go : (b : Bool) → is_held s.slots x ≡ b → LeavesHeld (cond b (record s { leaving = insert_key digest_cmp s.leaving x }) (record s { queue = s.queue ++ x ∷ [] }))
    go true e r h =
        or_true (same_digest r x) (among s.leaving r) (sym (any-insert_key (same_digest r) digest_cmp s.leaving x free) ∙ h)
        (λ j. ap (is_held s.slots) (one_digest r x j) ∙ e)
        (λ a. k r a)
    go false e r h = k r h

held_by_deed : (g : Setting) (s : State) (d : Deed) → Once s → LeavesHeld s → Ready s d → LeavesHeld (by_deed g s d)
held_by_deed g s Nothing once k a r h = k r h
held_by_deed g s (Opens p x) once k a r h = opened_held s p x a k r h
held_by_deed g s (Closes p) once k a r h = emptied_held s p (held s.slots p) refl once k r h
held_by_deed g s (Unlinks x) once k a r h = unlinked_held s x a.1 k r h
held_by_deed g s (Publishes x) once k a r h = k r h
held_by_deed g s Purges once k a r h = k r h
held_by_deed g s (Empties true) once k a r h = cc
held_by_deed g s (Empties false) once k a r h = cc

held_after : (g : Setting) (s : State) (e : CoreEvent) → Once s → LeavesHeld s → Fits g s e → LeavesHeld (after g s e)
held_after g s e once k f r h =
    let same = alike g s e.who e.act e.reply in
    rw same.slots (held_by_deed g s (its_deed e) once k (ready g s e.who e.act e.reply f) r (rw same.leaving at h))

held_run : (g : Setting) (s : State) (es : List CoreEvent) → Once s → LeavesHeld s → Steps g s es → LeavesHeld (state_after g s es)
held_run g s [] once k a = k
held_run g s (e ∷ es) once k a = held_run g (after g s e) es (once_after g s e once a.0) (held_after g s e once k a.0) a.1

pub leaving_roots_are_held : LeavingRootsAreHeld
leaving_roots_are_held h next r legal = held_run (setting_of h) (first_state (opening_map h) next) h.events (once_first (opening_map h) next) (λ x a. cc) legal.steps r
