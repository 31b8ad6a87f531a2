-- The map of a mounted volume is in the order of its roots, and what follows for a publication.
use Rattle.std.proofs.Common.{◌≡◌, ℕ, Bool, true, false, is_some, List, [], ◌∷◌, Option, Some, None, refl, ap, sym, ◌∙◌, subst, arith}
use Rattle.std.specs.declared.cmp.Ordering.{Ordering}
use Rattle.std.specs.declared.cmp.Ordering.TheVariants.{Less, Equal, Greater}
use Rattle.std.specs.Ordering.{match_ordering, ordering_reverse}
use Rattle.std.specs.BTreeMap.{insert_entry}
use Rattle.std.specs.List.{AllByRecursion}
use Rattle.std.specs.List.Sorted.{IsStrictlySortedBy}
use Rattle.std.specs.Map.{keys_of}
use Rattle.spec_tree.specs.Order.{digest_cmp}
use Rattle.spec_tree.specs.declared.Digest.{Digest}
use Rattle.spec_tree.specs.declared.blob.Blob.{Blob}
use Rattle.spec_core.proofs.Holding.{digest_total}
use Rattle.spec_core.proofs.Logs.{log_makes_map}
use Rattle.spec_core.proofs.Once.{most, once_last, some_times}
use Rattle.spec_core.specs.History.{last_state, opening_map}
use Rattle.spec_core.specs.Log.{changed}
use Rattle.spec_core.specs.State.{State, find, among}
use Rattle.spec_core.specs.declared.map_change.MapChange.{MapChange}
use Rattle.spec_core.specs.declared.map_change.MapChange.TheVariants.{Publish, Purge}
use Rattle.spec_rest.specs.Rest.{Map}
use Rattle.bv_model.specs.Noted.{Noted}
use Rattle.bv_ledger.proofs.Commuting.{sorted_without}
use Rattle.bv_ledger.specs.Entries.{MayWrite, MayPublish}
use Rattle.bv_ledger.specs.Tables.{Tables}
use Rattle.bv_store.specs.Stored.{Stored}
use Rattle.bv_volume.specs.Kept.{Kept}
use Rattle.bv_volume.proofs.Freed.{tabled_last}

abbrev IsInOrder : Map → Type 0
IsInOrder m = IsStrictlySortedBy digest_cmp (keys_of m)

all_put : (P : Digest → Type 0) (m : Map) (r : Digest) (b : Blob) → AllByRecursion P (keys_of m) → P r → AllByRecursion P (keys_of (insert_entry digest_cmp m r b))
all_put P [] r b all p = (p, tt)
all_put P (e ∷ m) r b all p = go (all_put P m r b all.1 p) (digest_cmp r e.0)
  where
    go : AllByRecursion P (keys_of (insert_entry digest_cmp m r b)) → (o : Ordering) → AllByRecursion P (keys_of (match_ordering o ((r, b) ∷ e ∷ m) ((e.0, b) ∷ m) (e ∷ insert_entry digest_cmp m r b)))
    go later Less = (p, all)
    go later Equal = all
    go later Greater = (all.0, later)

all_past : (a r : Digest) (ks : List Digest) → digest_cmp r a ≡ Less → AllByRecursion (λ y. digest_cmp a y ≡ Less) ks → AllByRecursion (λ y. digest_cmp r y ≡ Less) ks
all_past a r [] less all = tt
all_past a r (k ∷ ks) less all = (digest_total.trans r a k less all.0, all_past a r ks less all.1)

sorted_put : (m : Map) (r : Digest) (b : Blob) → IsInOrder m → IsInOrder (insert_entry digest_cmp m r b)
unfolding IsStrictlySortedBy
sorted_put [] r b sorted = (tt, tt)
sorted_put (e ∷ m) r b sorted = go (sorted_put m r b sorted.1) (digest_cmp r e.0) refl
  where
    go : IsInOrder (insert_entry digest_cmp m r b) → (o : Ordering) → digest_cmp r e.0 ≡ o → IsInOrder (match_ordering o ((r, b) ∷ e ∷ m) ((e.0, b) ∷ m) (e ∷ insert_entry digest_cmp m r b))
    go later Less is = ((is, all_past e.0 r (keys_of m) is sorted.0), sorted)
    go later Equal is = sorted
    go later Greater is = (all_put (λ y. digest_cmp e.0 y ≡ Less) m r b sorted.0 (digest_total.antisymm e.0 r ∙ ap ordering_reverse is), later)

sorted_changed : (m : Map) (cs : List MapChange) → IsInOrder m → IsInOrder (changed m cs)
sorted_changed m [] sorted = sorted
sorted_changed m (Publish r b ∷ cs) sorted = sorted_changed (insert_entry digest_cmp m r b) cs (sorted_put m r b sorted)
sorted_changed m (Purge r b ∷ cs) sorted = sorted_changed _ cs (sorted_without m r sorted)

module _ (n : Noted) (next : ℕ) (t : Tables) (s : Stored) (Both : Map → Map → Type 0) (kept : Kept n next t s Both) where
  abbrev last : State
  last = last_state n.history next

  sorted_map : t.stopped ≡ None → IsInOrder t.map
  sorted_map going =
      let whole = log_makes_map n.history next (ap (λ (x : State). x.stopped) kept.state ∙ going) in
      subst (λ (m : Map). IsInOrder m) (sym whole ∙ ap (λ (x : State). x.map) kept.state) (sorted_changed (opening_map n.history) last.log kept.legal.sorted)

  -- a root whose add is under way is new
  pub is_new : (r : Digest) (size : ℕ) → find t.adds r ≡ Some size → find t.map r ≡ None
  is_new r size under =
      subst (λ (m : Map). find m r ≡ None) (ap (λ (x : State). x.map) kept.state)
      ((tabled_last n.history next kept.legal).new r (ap is_some (ap (λ (x : State). find x.adds r) kept.state ∙ under)))

  unqueued : (r : Digest) → find t.map r ≡ None → (b : Bool) → among t.queue r ≡ b → among t.queue r ≡ false
  unqueued r none false is = is
  unqueued r none true is =
      let once = once_last n.history next kept.legal r in
      let empty : find last.map r ≡ None = ap (λ (x : State). find x.map r) kept.state ∙ none in
      let times = some_times r last.queue (ap (λ (x : State). among x.queue r) kept.state ∙ is) in
      absurd (omega (arith, once, times, ap (λ (o : Option Blob). most o) empty))

  pub not_queued : (r : Digest) (size : ℕ) → find t.adds r ≡ Some size → among t.queue r ≡ false
  not_queued r size under = unqueued r (is_new r size under) (among t.queue r) refl

  pub may_publish : (r : Digest) (size : ℕ) → find t.adds r ≡ Some size → MayWrite t → MayPublish t r
  may_publish r size under write = record {
    write = write;
    under_way = ap is_some under;
    new = is_new r size under;
    unqueued = not_queued r size under;
    sorted = sorted_map write.going;
  }
