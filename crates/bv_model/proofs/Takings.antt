-- The blocks of a map's blobs, of those that are queued or leave, and of purges.
use Rattle.std.proofs.Common.{◌≡◌, ℕ, ◌+◌, ◌≤◌, Bool, true, false, cond, is_some, ◌||◌, Option, Some, None, List, [], ◌∷◌, ◌++◌, refl, ap, sym, ◌∙◌, arith}
use Rattle.std.specs.declared.cmp.Ordering.{Ordering}
use Rattle.std.specs.declared.cmp.Ordering.TheVariants.{Less, Equal, Greater}
use Rattle.std.specs.Ordering.{is_eq, match_ordering}
use Rattle.std.specs.List.{sum_by, list_any}
use Rattle.std.specs.BTreeMap.{insert_entry, is_at}
use Rattle.std.specs.BTreeSet.{insert_key}
use Rattle.std.specs.Map.{lookup, values_of}
use Rattle.std.specs.Option.{option_map, unwrap_or}
use Rattle.std.specs.Set.{remove_key}
use Rattle.std.proofs.lemmas.List.Sums.{sum_by-cons}
use Rattle.std.proofs.lemmas.Map.Entries.{sum_by-remove_entry}
use Rattle.spec_tree.specs.declared.Digest.{Digest}
use Rattle.spec_tree.specs.declared.blob.Blob.{Blob}
use Rattle.spec_tree.specs.Order.{digest_cmp, same_digest}
use Rattle.spec_core.proofs.EntryLemmas.{lookup-remove_other, lookup-insert_entry}
use Rattle.bv_model.proofs.Flush.{changed_by_one}
use Rattle.spec_core.proofs.Holding.{digest_total, one_digest, changed-append, find-purges, same_self}
use Rattle.spec_core.proofs.Once.{Once, times, most, some_times, once_left, times-head, at_most_one}
use Rattle.spec_core.specs.Log.{changed, purges, purge_of, without, queued}
use Rattle.spec_core.specs.Room.{blob_need, purge_need}
use Rattle.spec_core.specs.State.{State, find, among}
use Rattle.spec_core.specs.declared.map_change.MapChange.{MapChange}
use Rattle.spec_core.specs.declared.map_change.MapChange.TheVariants.{Publish, Purge}

-- ---- sums over entries and keys, one more or fewer

module _ {K X : Type 0} (f : X → ℕ) where
  values-cons : (e : K × X) (es : List (K × X)) → sum_by f (values_of (e ∷ es)) ≡ f e.1 + sum_by f (values_of es)
  values-cons e es = sum_by-cons f e.1 (values_of es)

  pub sum-insert_entry : (R : K → K → Ordering) (es : List (K × X)) (k : K) (v : X) → lookup (is_at (R k)) es ≡ None → sum_by f (values_of (insert_entry R es k v)) ≡ f v + sum_by f (values_of es)
  sum-insert_entry R [] k v h = values-cons (k, v) []
  sum-insert_entry R (e ∷ es) k v h =
      let tail = sum-insert_entry R es k v in
      elim (R k e.0) as (λ o. cond (is_eq o) (Some e.1) (lookup (is_at (R k)) es) ≡ None → sum_by f (values_of (match_ordering o ((k, v) ∷ e ∷ es) ((e.0, v) ∷ es) (e ∷ insert_entry R es k v))) ≡ f v + sum_by f (values_of (e ∷ es))) [
        | Less ↦ λ h. values-cons (k, v) (e ∷ es)
        | Equal ↦ λ h. cc
        | Greater ↦ λ h. values-cons e (insert_entry R es k v) ∙ omega (arith, tail h, values-cons e es)
      ] h

module _ {K : Type 0} (f : K → ℕ) where
  pub sum-insert_key : (R : K → K → Ordering) (ks : List K) (k : K) → list_any (is_at (R k)) ks ≡ false → sum_by f (insert_key R ks k) ≡ f k + sum_by f ks
  sum-insert_key R [] k h = sum_by-cons f k []
  sum-insert_key R (x ∷ ks) k h =
      let tail = sum-insert_key R ks k in
      elim (R k x) as (λ o. (is_eq o || list_any (is_at (R k)) ks) ≡ false → sum_by f (match_ordering o (k ∷ x ∷ ks) (x ∷ ks) (x ∷ insert_key R ks k)) ≡ f k + sum_by f (x ∷ ks)) [
        | Less ↦ λ h. sum_by-cons f k (x ∷ ks)
        | Equal ↦ λ h. cc
        | Greater ↦ λ h. sum_by-cons f x (insert_key R ks k) ∙ omega (arith, tail h, sum_by-cons f x ks)
      ] h

  pub sum-remove_key : (test : K → Bool) (k : K) → ((x : K) → test x ≡ true → k ≡ x) → (ks : List K) → list_any test ks ≡ true → sum_by f (remove_key test ks) + f k ≡ sum_by f ks
  sum-remove_key test k one [] h = cc
  sum-remove_key test k one (x ∷ ks) h =
      let tail = sum-remove_key test k one ks in
      elim (test x) as (λ b. test x ≡ b → (b || list_any test ks) ≡ true → sum_by f (cond b ks (x ∷ remove_key test ks)) + f k ≡ sum_by f (x ∷ ks)) [
        | true ↦ λ t h. rw (one x t) (omega (arith, sum_by-cons f x ks))
        | false ↦ λ t h. omega (arith, tail h, sum_by-cons f x ks, sum_by-cons f x (remove_key test ks))
      ] refl h

-- ---- the blocks of these roots' blobs

pub need_at : List (Digest × Blob) → Digest → ℕ
need_at m r = unwrap_or (option_map blob_need (find m r)) 0

abbrev pub need_in : List (Digest × Blob) → List Digest → ℕ
need_in m rs = sum_by (need_at m) rs

pub need_found : (m : List (Digest × Blob)) (r : Digest) (blob : Blob) → find m r ≡ Some blob → need_at m r ≡ blob_need blob
unfolding need_at
need_found m r blob e = ap (λ (o : Option Blob). unwrap_or (option_map blob_need o) 0) e

need_same : (m n : List (Digest × Blob)) (r : Digest) → find n r ≡ find m r → need_at n r ≡ need_at m r
unfolding need_at
need_same m n r e = ap (λ (o : Option Blob). unwrap_or (option_map blob_need o) 0) e

pub need-without : (m : List (Digest × Blob)) (r : Digest) → sum_by blob_need (values_of (without m r)) + need_at m r ≡ sum_by blob_need (values_of m)
unfolding need_at
need-without m r = sum_by-remove_entry blob_need (is_at (digest_cmp r)) m

-- roots that a change leaves alone need the same
pub same_needs : (m n : List (Digest × Blob)) (rs : List Digest) → ((r : Digest) → among rs r ≡ true → find n r ≡ find m r) → need_in n rs ≡ need_in m rs
same_needs m n [] same = refl
same_needs m n (x ∷ rs) same =
    let tail = same_needs m n rs (λ r h. same r (later (same_digest r x) (among rs r) h)) in
    let head = need_same m n x (same x (ap (λ (b : Bool). b || among rs x) (same_self x))) in
    omega (arith, tail, head, sum_by-cons (need_at m) x rs, sum_by-cons (need_at n) x rs)
  where
    later : (a b : Bool) → b ≡ true → (a || b) ≡ true
    later true b h = refl
    later false b h = h

need_in_other : (m : List (Digest × Blob)) (x : Digest) (rs : List Digest) → among rs x ≡ false → need_in (without m x) rs ≡ need_in m rs
need_in_other m x rs free = same_needs m (without m x) rs (λ r h. lookup-remove_other digest_total m x r (apart r h (same_digest x r) refl))
  where
    apart : (r : Digest) → among rs r ≡ true → (b : Bool) → same_digest x r ≡ b → same_digest x r ≡ false
    apart r h true e = let here = sym (ap (among rs) (one_digest x r e)) in cc
    apart r h false e = e

-- ---- purges

purge_of-need : (o : Option Blob) (x : Digest) (cs : List MapChange) → sum_by purge_need (purge_of o x ++ cs) ≡ unwrap_or (option_map blob_need o) 0 + sum_by purge_need cs
purge_of-need None x cs = omega arith
purge_of-need (Some b) x cs = sum_by-cons purge_need (Purge x b) cs

purge_need-step : (m : List (Digest × Blob)) (x : Digest) (cs : List MapChange) → sum_by purge_need (purge_of (find m x) x ++ cs) ≡ need_at m x + sum_by purge_need cs
unfolding need_at
purge_need-step m x cs = purge_of-need (find m x) x cs

-- what is purged goes from the map to the log
pub purged-need : (m : List (Digest × Blob)) (rs : List Digest) → sum_by blob_need (values_of (changed m (purges m rs))) + sum_by purge_need (purges m rs) ≡ sum_by blob_need (values_of m)
purged-need m [] = omega arith
purged-need m (x ∷ rs) =
    rw (changed_by_one m x (find m x) (purges (without m x) rs) refl) (omega (arith, purged-need (without m x) rs, need-without m x, purge_need-step m x (purges (without m x) rs)))

-- the purges of roots that are there, each once, free the blocks of their blobs
pub purges-need : (m : List (Digest × Blob)) (rs : List Digest) → ((r : Digest) → times r rs ≤ most (find m r)) → sum_by purge_need (purges m rs) ≡ need_in m rs
purges-need m [] k = refl
purges-need m (x ∷ rs) k =
    let tail = purges-need (without m x) rs (once_left m x rs k) in
    let rest = need_in_other m x rs (none_more (among rs x) refl) in
    omega (arith, tail, rest, purge_need-step m x (purges (without m x) rs), sum_by-cons (need_at m) x rs)
  where
    none_more : (b : Bool) → among rs x ≡ b → among rs x ≡ false
    none_more true e = absurd (omega (arith, times-head x rs, k x, some_times x rs e, at_most_one (is_some (find m x))))
    none_more false e = e

-- ---- of a state

pub queued-need : (s : State) → Once s → sum_by purge_need (queued s) ≡ need_in s.map s.queue
queued-need s k = purges-need s.map s.queue (λ r. omega (arith, k r))

module _ (s : State) (k : Once s) where
  -- what leaves is in the map, and isn't queued
  leaving_found : (r : Digest) → among s.leaving r ≡ true → is_some (find s.map r) ≡ true
  leaving_found r h = go (is_some (find s.map r)) refl
    where
      go : (b : Bool) → is_some (find s.map r) ≡ b → is_some (find s.map r) ≡ true
      go true e = e
      go false e = absurd (omega (arith, k r, some_times r s.leaving h, ap (λ (b : Bool). cond {A = ℕ} b 1 0) e))

  leaving_not_queued : (r : Digest) → among s.leaving r ≡ true → among s.queue r ≡ false
  leaving_not_queued r h = go (among s.queue r) refl
    where
      go : (b : Bool) → among s.queue r ≡ b → among s.queue r ≡ false
      go true e = absurd (omega (arith, k r, some_times r s.leaving h, some_times r s.queue e, at_most_one (is_some (find s.map r))))
      go false e = e

  -- a flush leaves what leaves
  pub leaving-flushed : need_in (changed s.map (queued s)) s.leaving ≡ need_in s.map s.leaving
  leaving-flushed = same_needs s.map (changed s.map (queued s)) s.leaving (λ r h. find-purges s.map s.map s.queue r (leaving_not_queued r h))

  pub leaving-published : (x : Digest) (blob : Blob) → find s.map x ≡ None → need_in (changed s.map (queued s ++ Publish x blob ∷ [])) s.leaving ≡ need_in s.map s.leaving
  leaving-published x blob free = same_needs s.map (changed s.map (queued s ++ Publish x blob ∷ [])) s.leaving (λ r h. ap (λ es. find es r) (changed-append s.map (queued s) (Publish x blob ∷ [])) ∙ lookup-insert_entry digest_total (changed s.map (queued s)) x blob r ∙ pick r h (same_digest r x) refl ∙ find-purges s.map s.map s.queue r (leaving_not_queued r h))
    where
      pick : (r : Digest) → among s.leaving r ≡ true → (b : Bool) → same_digest r x ≡ b → cond b (Some blob) (find (changed s.map (queued s)) r) ≡ find (changed s.map (queued s)) r
      pick r h true e = let none = ap (find s.map) (one_digest r x e) ∙ free in let no = sym (ap is_some none) ∙ leaving_found r h in cc
      pick r h false e = refl

  pub leaving_blob : (r : Digest) → among s.leaving r ≡ true → (blob : Blob) × (find s.map r ≡ Some blob)
  leaving_blob r h = go (find s.map r) refl (leaving_found r h)
    where
      go : (o : Option Blob) → find s.map r ≡ o → is_some o ≡ true → (blob : Blob) × (find s.map r ≡ Some blob)
      go None e h = cc
      go (Some blob) e h = (blob, e)
