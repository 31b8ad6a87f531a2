-- Sums over what a map has, and over what a log frees.
use Rattle.std.proofs.Common.{◌≡◌, ℕ, zero, suc, ◌+◌, ◌≤◌, Bool, true, false, cond, Option, None, Some, List, [], ◌∷◌, ◌++◌, drop, refl, ap, sym, arith}
use Rattle.std.specs.List.{sum_by}
use Rattle.std.specs.declared.cmp.Ordering.{Ordering}
use Rattle.std.specs.declared.cmp.Ordering.TheVariants.{Less, Equal, Greater}
use Rattle.std.specs.Ordering.{match_ordering}
use Rattle.std.specs.BTreeMap.{insert_entry, is_at}
use Rattle.std.specs.Map.{lookup, remove_entry, values_of}
use Rattle.std.specs.Option.{unwrap_or, option_map}
use Rattle.std.proofs.lemmas.List.Sums.{sum_by-append, sum_by-cons, sum_by-take-drop}
use Rattle.std.proofs.lemmas.Map.Entries.{sum_by-remove_entry}
use Rattle.spec_tree.specs.declared.Digest.{Digest}
use Rattle.spec_tree.specs.declared.blob.Blob.{Blob}
use Rattle.spec_tree.specs.Order.{digest_cmp}
use Rattle.spec_core.specs.Log.{changed, purge_of, purges, without}
use Rattle.spec_core.specs.State.{find}
use Rattle.spec_core.specs.declared.map_change.MapChange.{MapChange}
use Rattle.spec_core.specs.declared.map_change.MapChange.TheVariants.{Publish, Purge}

-- an entry more adds its own weight at most
module _ {K X : Type 0} (f : X → ℕ) (R : K → K → Ordering) (k : K) (v : X) where
  abbrev total : List (K × X) → ℕ
  total es = sum_by f (values_of es)

  pub inserted-le : (es : List (K × X)) → sum_by f (values_of (insert_entry R es k v)) ≤ sum_by f (values_of es) + f v
  inserted-le [] = omega (arith, sum_by-cons f v [])
  inserted-le (e ∷ es) = by (R k e.0) (inserted-le es) where
    by : (r : Ordering) → total (insert_entry R es k v) ≤ total es + f v
        → total (match_ordering r ((k, v) ∷ e ∷ es) ((e.0, v) ∷ es) (e ∷ insert_entry R es k v)) ≤ total (e ∷ es) + f v
    by Less later = omega (arith, sum_by-cons f v (values_of (e ∷ es)))
    by Equal later = omega (arith, sum_by-cons f v (values_of es), sum_by-cons f e.1 (values_of es))
    by Greater later = omega (arith, later, sum_by-cons f e.1 (values_of es), sum_by-cons f e.1 (values_of (insert_entry R es k v)))

-- to remove what isn't there changes nothing
remove_none : {K X : Type 0} (test : K → Bool) (es : List (K × X)) → lookup test es ≡ None → remove_entry test es ≡ es
remove_none test [] none = refl
remove_none {X = X} test (e ∷ es) none = by (test e.0) none (remove_none test es) where
  by : (b : Bool) → cond b (Some e.1) (lookup test es) ≡ None → (lookup test es ≡ None → remove_entry test es ≡ es) → cond b es (e ∷ remove_entry test es) ≡ e ∷ es
  by true none later = cc
  by false none later = ap (λ (xs : List _). e ∷ xs) (later none)

-- what is dropped of two lists
module _ {X : Type 0} (f : X → ℕ) where
  pub dropped-le : (n : ℕ) (xs ys : List X) → sum_by f (drop n (xs ++ ys)) ≤ sum_by f (drop n xs) + sum_by f ys
  dropped-le zero xs ys = omega (arith, sum_by-append f xs ys)
  dropped-le (suc n) [] ys = omega (arith, sum_by-take-drop f ys (suc n))
  dropped-le (suc n) (x ∷ xs) ys = dropped-le n xs ys

-- the weight of what a change of the log purges
abbrev pub freed : (Blob → ℕ) → MapChange → ℕ
freed f (Publish r blob) = 0
freed f (Purge r blob) = f blob

-- a purge takes from the map what it frees
module _ (f : Blob → ℕ) where
  abbrev held : List (Digest × Blob) → ℕ
  held m = sum_by f (values_of m)

  module _ (cs : List MapChange) (more : ℕ) (last : (m : List (Digest × Blob)) → held (changed m cs) ≤ held m + more) where
    pub purged-le : (m : List (Digest × Blob)) (rs : List Digest) → held (changed m (purges m rs ++ cs)) + sum_by (freed f) (purges m rs) ≤ held m + more
    purged-le m [] = omega (arith, last m)
    purged-le m (r ∷ rs) = by (find m r) refl (sum_by-remove_entry f (is_at (digest_cmp r)) m) (purged-le (without m r) rs) where
      by : (o : Option Blob) → find m r ≡ o → held (without m r) + unwrap_or (option_map f o) 0 ≡ held m
          → held (changed (without m r) (purges (without m r) rs ++ cs)) + sum_by (freed f) (purges (without m r) rs) ≤ held (without m r) + more
          → held (changed m ((purge_of o r ++ purges (without m r) rs) ++ cs)) + sum_by (freed f) (purge_of o r ++ purges (without m r) rs) ≤ held m + more
      by None none same later =
          let is : held (changed m (purges (without m r) rs ++ cs)) ≡ held (changed (without m r) (purges (without m r) rs ++ cs)) = ap (λ (es : List (Digest × Blob)). held (changed es (purges (without m r) rs ++ cs))) (sym (remove_none (is_at (digest_cmp r)) m none)) in
          omega (arith, same, later, is)
      by (Some b) some same later = omega (arith, same, later, sum_by-cons (freed f) (Purge r b) (purges (without m r) rs))
