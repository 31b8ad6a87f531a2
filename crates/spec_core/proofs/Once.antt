-- A root is queued or leaves at most once, and only while it is in the map.
use Rattle.std.proofs.Common.{◌≡◌, ℕ, ◌+◌, ◌≤◌, Bool, true, false, cond, not, is_some, ◌&&◌, ◌||◌, Option, Some, None, List, [], ◌∷◌, ◌++◌, length, refl, ap, ◌∙◌, arith}
use Rattle.std.specs.Cmp.{eq_by_cmp_equiv}
use Rattle.std.specs.List.{count_by}
use Rattle.std.specs.BTreeMap.{is_at}
use Rattle.std.specs.BTreeSet.{insert_key}
use Rattle.std.specs.Map.{remove_entry}
use Rattle.std.specs.Set.{remove_key}
use Rattle.std.proofs.Math.Bool.{or-true}
use Rattle.std.proofs.lemmas.List.Folds.{list_any-append}
use Rattle.std.proofs.lemmas.List.Sums.{sum_by-append}
use Rattle.spec_tree.specs.declared.Digest.{Digest}
use Rattle.spec_tree.specs.declared.blob.Blob.{Blob}
use Rattle.spec_tree.specs.Order.{digest_cmp, same_digest}
use Rattle.spec_core.proofs.Counting.{count-cons, count-insert_key-le, count-remove_key, any-insert_key, not_among}
use Rattle.spec_core.proofs.Deeds.{by_deed, alike, ready, Ready, its_deed}
use Rattle.spec_core.proofs.EntryLemmas.{lookup-insert_entry, lookup-remove_other}
use Rattle.spec_core.proofs.Holding.{digest_total, one_digest, changed-append, find-purges, same_self}
use Rattle.spec_core.specs.Change.{let_go, emptied, unlinked, slots_emptied}
use Rattle.spec_core.specs.History.{History, setting_of, opening_map, first_state, last_state, Legal}
use Rattle.spec_core.specs.Laws.{UnlinkedRootsLeave, UnlinkedRootsStay, QueueIsPurged}
use Rattle.spec_core.specs.Log.{changed, purges, purge_of, without, queued, flushed}
use Rattle.spec_core.specs.Order.{place_cmp}
use Rattle.spec_core.specs.State.{State, find, among, held, is_held, is_unlinked}
use Rattle.spec_core.specs.Step.{Fits, after, state_after, Steps}
use Rattle.spec_core.specs.declared.act.Act.TheVariants.{Unlink}
use Rattle.spec_core.specs.declared.deed.Deed.{Deed}
use Rattle.spec_core.specs.declared.deed.Deed.TheVariants.{Nothing, Opens, Closes, Unlinks, Publishes, Purges, Empties}
use Rattle.spec_core.specs.declared.event.CoreEvent.{CoreEvent}
use Rattle.spec_core.specs.declared.map_change.MapChange.TheVariants.{Publish}
use Rattle.spec_core.specs.declared.place.Place.{Place}
use Rattle.spec_core.specs.declared.reply.Reply.TheVariants.{Unlinked}
use Rattle.spec_core.specs.declared.setting.Setting.{Setting}

abbrev pub times : Digest → List Digest → ℕ
times r roots = count_by (same_digest r) roots

abbrev pub most : {X : Type 0} → Option X → ℕ
most o = cond (is_some o) 1 0

abbrev pub Once : State → Type 0
Once s = (r : Digest) → times r s.queue + times r s.leaving ≤ most (find s.map r)

times-append : (r : Digest) (xs ys : List Digest) → times r (xs ++ ys) ≡ times r xs + times r ys
times-append r xs ys = sum_by-append (λ x. cond (same_digest r x) 1 0) xs ys

times-push : (r x : Digest) (xs : List Digest) → times r (xs ++ x ∷ []) ≡ times r xs + cond (same_digest r x) 1 0
times-push r x xs = omega (arith, times-append r xs (x ∷ []), count-cons (same_digest r) x [])

pub at_most_one : (b : Bool) → cond b 1 0 ≤ 1
at_most_one true = omega arith
at_most_one false = omega arith

once_let_go : (s : State) (x : Digest) → Once s → Once (let_go s x)
once_let_go s x k = go (among s.leaving x) (not (is_held s.slots x)) refl
  where
    go : (a b : Bool) → among s.leaving x ≡ a → Once (cond (a && b) (record s { leaving = remove_key (is_at (digest_cmp x)) s.leaving; queue = s.queue ++ x ∷ [] }) s)
    go true true e r = omega (arith, k r, times-push r x s.queue, count-remove_key (same_digest r) (is_at (digest_cmp x)) x (one_digest x) s.leaving e)
    go true false e r = k r
    go false b e r = k r

once_emptied : (s : State) (p : Place) (o : Option Digest) → Once s → Once (emptied s p o)
once_emptied s p (Some x) k = once_let_go (record s { slots = remove_entry (is_at (place_cmp p)) s.slots }) x k
once_emptied s p None k = k

once_unlinked : (s : State) (x : Digest) → Once s → Ready s (Unlinks x) → Once (unlinked s x Unlinked)
once_unlinked s x k a = go (is_held s.slots x)
  where
    one : (r : Digest) (b : Bool) → same_digest r x ≡ b → cond b 1 0 + (times r s.queue + times r s.leaving) ≤ most (find s.map r)
    one r true e = rw (one_digest r x e, a.0) (omega (arith, not_among (same_digest x) s.leaving a.1, not_among (same_digest x) s.queue a.2))
    one r false e = omega (arith, k r)

    go : (b : Bool) → Once (cond b (record s { leaving = insert_key digest_cmp s.leaving x }) (record s { queue = s.queue ++ x ∷ [] }))
    go true r = omega (arith, one r (same_digest r x) refl, count-insert_key-le (same_digest r) digest_cmp s.leaving x)
    go false r = omega (arith, one r (same_digest r x) refl, times-push r x s.queue)

pub some_times : (r : Digest) (xs : List Digest) → among xs r ≡ true → 1 ≤ times r xs
some_times r [] h = cc
some_times r (x ∷ xs) h = let rest = some_times r xs in rw (count-cons (same_digest r) x xs) (pick (same_digest r x) rest h)
  where
    pick : (b : Bool) → (among xs r ≡ true → 1 ≤ times r xs) → (b || among xs r) ≡ true → 1 ≤ cond b 1 0 + times r xs
    pick true f h = omega arith
    pick false f h = omega (arith, f h)

-- what leaves is in the map once the queue is purged
once_purged : (s : State) (r : Digest) → Once s → times r s.leaving ≤ most (find (changed s.map (queued s)) r)
once_purged s r k = go (among s.queue r) refl
  where
    go : (b : Bool) → among s.queue r ≡ b → times r s.leaving ≤ most (find (changed s.map (queued s)) r)
    go true e = omega (arith, k r, some_times r s.queue e, at_most_one (is_some (find s.map r)))
    go false e = rw (find-purges s.map s.map s.queue r e) (omega (arith, k r))

once_flushed : (s : State) → Once s → Once (flushed s [])
once_flushed s k r = rw (changed-append s.map (queued s) []) (omega (arith, once_purged s r k))

once_published : (s : State) (x : Digest) (blob : Blob) → Once s → Once (flushed s (Publish x blob ∷ []))
once_published s x blob k r =
    rw (changed-append s.map (queued s) (Publish x blob ∷ []), lookup-insert_entry digest_total (changed s.map (queued s)) x blob r) (more (same_digest r x) _ (once_purged s r k))
  where
    more : (b : Bool) (o : Option Blob) → times r s.leaving ≤ most o → 0 + times r s.leaving ≤ most (cond b (Some blob) o)
    more true o h = omega (arith, h, at_most_one (is_some o))
    more false o h = omega (arith, h)

pub once_slots_emptied : (s : State) → Once s → Once (slots_emptied s)
once_slots_emptied s k r = omega (arith, k r, times-append r s.queue s.leaving)

pub once_by_deed : (g : Setting) (s : State) (d : Deed) → Once s → Ready s d → Once (by_deed g s d)
once_by_deed g s Nothing k a = k
once_by_deed g s (Opens p x) k a = k
once_by_deed g s (Closes p) k a = once_emptied s p (held s.slots p) k
once_by_deed g s (Unlinks x) k a = once_unlinked s x k a
once_by_deed g s (Publishes x) k a = once_published s x _ k
once_by_deed g s Purges k a = once_flushed s k
once_by_deed g s (Empties true) k a = once_flushed (slots_emptied s) (once_slots_emptied s k)
once_by_deed g s (Empties false) k a = once_slots_emptied s k

pub once_after : (g : Setting) (s : State) (e : CoreEvent) → Once s → Fits g s e → Once (after g s e)
once_after g s e k f r =
    let same = alike g s e.who e.act e.reply in
    rw (same.queue, same.leaving, same.map) (once_by_deed g s (its_deed e) k (ready g s e.who e.act e.reply f) r)

pub once_run : (g : Setting) (s : State) (es : List CoreEvent) → Once s → Steps g s es → Once (state_after g s es)
once_run g s [] k a = k
once_run g s (e ∷ es) k a = once_run g (after g s e) es (once_after g s e k a.0) a.1

pub once_first : (blobs : List (Digest × Blob)) (next : ℕ) → Once (first_state blobs next)
once_first blobs next r = omega arith

pub once_last : (h : History) (next : ℕ) → Legal h next → Once (last_state h next)
once_last h next legal = once_run (setting_of h) (first_state (opening_map h) next) h.events (once_first (opening_map h) next) legal.steps

-- where each root has a blob to purge, so has each one past the first
pub times-head : (x : Digest) (rs : List Digest) → times x (x ∷ rs) ≡ 1 + times x rs
times-head x rs = count-cons (same_digest x) x rs ∙ ap (λ (b : Bool). cond b 1 0 + times x rs) (same_self x)

pub once_left : (m : List (Digest × Blob)) (x : Digest) (rs : List Digest) → ((r : Digest) → times r (x ∷ rs) ≤ most (find m r)) → (r : Digest) → times r rs ≤ most (find (without m x) r)
once_left m x rs k r = pick (same_digest r x) refl
  where
    pick : (b : Bool) → same_digest r x ≡ b → times r rs ≤ most (find (without m x) r)
    pick true e = rw (one_digest r x e) (omega (arith, times-head x rs, k x, at_most_one (is_some (find m x))))
    pick false e = rw (lookup-remove_other digest_total m x r ((eq_by_cmp_equiv digest_total).symm x r ∙ e)) (omega (arith, k r, count-cons (same_digest r) x rs))

-- each root of the queue has its blob to purge
pub length-purges : (m : List (Digest × Blob)) (rs : List Digest) → ((r : Digest) → times r rs ≤ most (find m r)) → length (purges m rs) ≡ length rs
length-purges m [] k = refl
length-purges m (x ∷ rs) k = let tail = length-purges (without m x) rs in go (find m x) refl tail
  where
    go : (o : Option Blob) → find m x ≡ o → (((r : Digest) → times r rs ≤ most (find (without m x) r)) → length (purges (without m x) rs) ≡ length rs) → length (purge_of o x ++ purges (without m x) rs) ≡ length (x ∷ rs)
    go None e f = absurd (omega (arith, times-head x rs, k x, ap most e))
    go (Some b) e f = omega (arith, f (once_left m x rs k))

pub length-queued : (s : State) → Once s → length (queued s) ≡ length s.queue
length-queued s k = length-purges s.map s.queue (λ r. omega (arith, k r))

-- ---- laws

pub unlinked_roots_leave : UnlinkedRootsLeave
unlinked_roots_leave g s t w r calls step = rw step.1 (go (is_held s.slots r))
  where
    apart : among s.leaving r ≡ false
    apart = (ready g s w (Unlink r) Unlinked step.0).1

    go : (b : Bool) → is_unlinked (cond b (record s { leaving = insert_key digest_cmp s.leaving r }) (record s { queue = s.queue ++ r ∷ [] })) r ≡ true
    go true = rw (any-insert_key (same_digest r) digest_cmp s.leaving r apart, same_self r) refl
    go false = rw (list_any-append (same_digest r) s.queue (r ∷ []), same_self r, or-true (among s.queue r), or-true (among s.leaving r)) refl

pub unlinked_roots_stay : UnlinkedRootsStay
unlinked_roots_stay h next r legal = rw (times-append r (last_state h next).queue (last_state h next).leaving) (once_last h next legal r)

pub queue_is_purged : QueueIsPurged
queue_is_purged h next legal = length-queued (last_state h next) (once_last h next legal)
