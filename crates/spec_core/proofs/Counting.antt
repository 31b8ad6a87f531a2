-- Counts of entries and keys, after a change.
use Rattle.std.proofs.Common.{◌≡◌, ℕ, ◌+◌, ◌≤◌, ◌==◌, Bool, true, false, cond, not, ◌||◌, Some, None, List, [], ◌∷◌, length, refl, ap, sym, ◌∙◌, arith}
use Rattle.std.specs.declared.cmp.Ordering.{Ordering}
use Rattle.std.specs.declared.cmp.Ordering.TheVariants.{Less, Equal, Greater}
use Rattle.std.specs.Ordering.{is_eq, match_ordering}
use Rattle.std.specs.List.{list_any, count_by}
use Rattle.std.specs.BTreeMap.{insert_entry, is_at}
use Rattle.std.specs.BTreeSet.{insert_key}
use Rattle.std.specs.Map.{lookup, remove_entry}
use Rattle.std.specs.Set.{remove_key}
use Rattle.std.proofs.lemmas.Bool.Decides.{nat_tests}
use Rattle.std.proofs.lemmas.List.Sums.{sum_by-cons}

pub eq_from : (m n : ℕ) → (m == n) ≡ true → m ≡ n
eq_from m n h = grind (arith, nat_tests)

pub not_zero : (n : ℕ) → (1 + n == 0) ≡ false
not_zero n = go (1 + n == 0) refl
  where
    go : (b : Bool) → (1 + n == 0) ≡ b → b ≡ false
    go true e = absurd (omega (arith, eq_from (1 + n) 0 e))
    go false e = refl

module _ {X : Type 0} (q : X → Bool) where
  pub count-cons : (x : X) (xs : List X) → count_by q (x ∷ xs) ≡ cond (q x) 1 0 + count_by q xs
  count-cons x xs = sum_by-cons (λ y. cond (q y) 1 0) x xs

  -- whether there is one, by how many there are
  pub any-count : (xs : List X) → list_any q xs ≡ not (count_by q xs == 0)
  any-count [] = refl
  any-count (x ∷ xs) = ap (λ b. q x || b) (any-count xs) ∙ go (q x) (count_by q xs) ∙ ap (λ (n : ℕ). not (n == 0)) (sym (count-cons x xs))
    where
      go : (b : Bool) (n : ℕ) → (b || not (n == 0)) ≡ not (cond b 1 0 + n == 0)
      go true n = sym (ap not (not_zero n))
      go false n = let same : n ≡ 0 + n = omega arith in ap (λ (m : ℕ). not (m == 0)) same

-- entries
module _ {K X : Type 0} (q : K × X → Bool) where
  -- a new key's entry is one more
  pub count-insert_entry : (R : K → K → Ordering) (es : List (K × X)) (k : K) (v : X) → lookup (is_at (R k)) es ≡ None → count_by q (insert_entry R es k v) ≡ cond (q (k, v)) 1 0 + count_by q es
  count-insert_entry R [] k v h = count-cons q (k, v) []
  count-insert_entry R (e ∷ es) k v h =
      let tail = count-insert_entry R es k v in
      elim (R k e.0) as (λ o. cond (is_eq o) (Some e.1) (lookup (is_at (R k)) es) ≡ None → count_by q (match_ordering o ((k, v) ∷ e ∷ es) ((e.0, v) ∷ es) (e ∷ insert_entry R es k v)) ≡ cond (q (k, v)) 1 0 + count_by q (e ∷ es)) [
        | Less ↦ λ h. count-cons q (k, v) (e ∷ es)
        | Equal ↦ λ h. cc
        | Greater ↦ λ h. count-cons q e (insert_entry R es k v) ∙ omega (arith, tail h, count-cons q e es)
      ] h

  pub count-remove_entry-le : (test : K → Bool) (es : List (K × X)) → count_by q (remove_entry test es) ≤ count_by q es
  count-remove_entry-le test [] = omega arith
  count-remove_entry-le test (e ∷ es) =
      let tail = count-remove_entry-le test es in
      elim (test e.0) as (λ b. count_by q (cond b es (e ∷ remove_entry test es)) ≤ count_by q (e ∷ es)) [
        | true ↦ omega (arith, count-cons q e es)
        | false ↦ omega (arith, tail, count-cons q e es, count-cons q e (remove_entry test es))
      ]

-- entries by their values
module _ {K X : Type 0} (p : X → Bool) where
  pub count-remove_entry : (test : K → Bool) (es : List (K × X)) (v : X) → lookup test es ≡ Some v → count_by (λ e. p e.1) (remove_entry test es) + cond (p v) 1 0 ≡ count_by (λ e. p e.1) es
  count-remove_entry test [] v h = cc
  count-remove_entry test (e ∷ es) v h =
      let tail = count-remove_entry test es v in
      let one = count-cons (λ (e : K × X). p e.1) e es in
      let more = count-cons (λ (e : K × X). p e.1) e (remove_entry test es) in
      elim (test e.0) as (λ b. cond b (Some e.1) (lookup test es) ≡ Some v → count_by (λ e. p e.1) (cond b es (e ∷ remove_entry test es)) + cond (p v) 1 0 ≡ count_by (λ e. p e.1) (e ∷ es)) [
        | true ↦ λ h. let same : e.1 ≡ v = cc in rw (← same) (omega (arith, one))
        | false ↦ λ h. omega (arith, tail h, one, more)
      ] h

-- entries by their keys
module _ {K X : Type 0} (test : K → Bool) where
  pub none-counted : (es : List (K × X)) → lookup test es ≡ None → count_by (λ e. test e.0) es ≡ 0
  none-counted [] h = refl
  none-counted (e ∷ es) h =
      let tail = none-counted es in
      count-cons (λ (e : K × X). test e.0) e es ∙ elim (test e.0) as (λ b. cond b (Some e.1) (lookup test es) ≡ None → cond b 1 0 + count_by (λ e. test e.0) es ≡ 0) [
        | true ↦ λ h. cc
        | false ↦ λ h. omega (arith, tail h)
      ] h

  pub none-found : (es : List (K × X)) → count_by (λ e. test e.0) es ≡ 0 → lookup test es ≡ None
  none-found [] h = refl
  none-found (e ∷ es) h =
      let tail = none-found es in
      elim (test e.0) as (λ b. cond b 1 0 + count_by (λ e. test e.0) es ≡ 0 → cond b (Some e.1) (lookup test es) ≡ None) [
        | true ↦ λ h. absurd (omega (arith, h))
        | false ↦ λ h. tail (omega (arith, h))
      ] (sym (count-cons (λ (e : K × X). test e.0) e es) ∙ h)

  -- where there was one entry at most, there is none once it is removed
  pub none-left : (es : List (K × X)) → count_by (λ e. test e.0) es ≤ 1 → lookup test (remove_entry test es) ≡ None
  none-left [] h = refl
  none-left (e ∷ es) h =
      let tail = none-left es in
      elim (test e.0) as (λ b. test e.0 ≡ b → cond b 1 0 + count_by (λ e. test e.0) es ≤ 1 → lookup test (cond b es (e ∷ remove_entry test es)) ≡ None) [
        | true ↦ λ t h. none-found es (omega (arith, h))
        | false ↦ λ t h. rw t (tail (omega (arith, h)))
      ] refl (rw (count-cons (λ (e : K × X). test e.0) e es) at h)

-- keys
module _ {K : Type 0} (q : K → Bool) where
  pub count-insert_key-le : (R : K → K → Ordering) (ks : List K) (k : K) → count_by q (insert_key R ks k) ≤ cond (q k) 1 0 + count_by q ks
  count-insert_key-le R [] k = omega (arith, count-cons q k [])
  count-insert_key-le R (x ∷ ks) k =
      let tail = count-insert_key-le R ks k in
      elim (R k x) as (λ o. count_by q (match_ordering o (k ∷ x ∷ ks) (x ∷ ks) (x ∷ insert_key R ks k)) ≤ cond (q k) 1 0 + count_by q (x ∷ ks)) [
        | Less ↦ omega (arith, count-cons q k (x ∷ ks))
        | Equal ↦ omega arith
        | Greater ↦ omega (arith, tail, count-cons q x (insert_key R ks k), count-cons q x ks)
      ]

  pub count-remove_key : (test : K → Bool) (k : K) → ((x : K) → test x ≡ true → k ≡ x) → (ks : List K) → list_any test ks ≡ true → count_by q (remove_key test ks) + cond (q k) 1 0 ≡ count_by q ks
  count-remove_key test k one [] h = cc
  count-remove_key test k one (x ∷ ks) h =
      let tail = count-remove_key test k one ks in
      elim (test x) as (λ b. test x ≡ b → (b || list_any test ks) ≡ true → count_by q (cond b ks (x ∷ remove_key test ks)) + cond (q k) 1 0 ≡ count_by q (x ∷ ks)) [
        | true ↦ λ t h. rw (one x t) (omega (arith, count-cons q x ks))
        | false ↦ λ t h. omega (arith, tail h, count-cons q x ks, count-cons q x (remove_key test ks))
      ] refl h

  -- a new key is there, beside those before
  pub any-insert_key : (R : K → K → Ordering) (ks : List K) (k : K) → list_any (is_at (R k)) ks ≡ false → list_any q (insert_key R ks k) ≡ (q k || list_any q ks)
  any-insert_key R [] k h = refl
  any-insert_key R (x ∷ ks) k h =
      let tail = any-insert_key R ks k in
      elim (R k x) as (λ o. (is_eq o || list_any (is_at (R k)) ks) ≡ false → list_any q (match_ordering o (k ∷ x ∷ ks) (x ∷ ks) (x ∷ insert_key R ks k)) ≡ (q k || (q x || list_any q ks))) [
        | Less ↦ λ h. refl
        | Equal ↦ λ h. cc
        | Greater ↦ λ h. ap (λ b. q x || b) (tail h) ∙ swap (q x) (q k) (list_any q ks)
      ] h
    where
      swap : (a b c : Bool) → (a || (b || c)) ≡ (b || (a || c))
      swap true true c = refl
      swap true false c = refl
      swap false true c = refl
      swap false false c = refl

  pub any-remove_other : (test : K → Bool) → ((x : K) → test x ≡ true → q x ≡ false) → (ks : List K) → list_any q (remove_key test ks) ≡ list_any q ks
  any-remove_other test apart [] = refl
  any-remove_other test apart (x ∷ ks) =
      let tail = any-remove_other test apart ks in
      elim (test x) as (λ b. test x ≡ b → list_any q (cond b ks (x ∷ remove_key test ks)) ≡ (q x || list_any q ks)) [
        | true ↦ λ t. ap (λ b. b || list_any q ks) (sym (apart x t))
        | false ↦ λ t. ap (λ b. q x || b) tail
      ] refl

pub length-insert_key : {K : Type 0} (R : K → K → Ordering) (ks : List K) (k : K) → list_any (is_at (R k)) ks ≡ false → length (insert_key R ks k) ≡ length ks + 1
length-insert_key R [] k h = refl
length-insert_key R (x ∷ ks) k h =
    let tail = length-insert_key R ks k in
    elim (R k x) as (λ o. (is_eq o || list_any (is_at (R k)) ks) ≡ false → length (match_ordering o (k ∷ x ∷ ks) (x ∷ ks) (x ∷ insert_key R ks k)) ≡ length (x ∷ ks) + 1) [
      | Less ↦ λ h. omega arith
      | Equal ↦ λ h. cc
      | Greater ↦ λ h. omega (arith, tail h)
    ] h

-- none is among these, so there is no such one
pub not_among : {X : Type 0} (q : X → Bool) (xs : List X) → list_any q xs ≡ false → count_by q xs ≡ 0
not_among q [] h = refl
not_among q (x ∷ xs) h = zero (count_by q (x ∷ xs)) (sym (any-count q (x ∷ xs)) ∙ h)
  where
    zero : (n : ℕ) → not (n == 0) ≡ false → n ≡ 0
    zero n h = go (n == 0) refl h
      where
        go : (b : Bool) → (n == 0) ≡ b → not b ≡ false → n ≡ 0
        go true e h = eq_from n 0 e
        go false e h = cc
