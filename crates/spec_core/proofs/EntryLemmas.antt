-- What a list of entries has after a change.
use Rattle.std.proofs.Common.{◌≡◌, Bool, true, false, cond, ◌||◌, Some, List, [], ◌∷◌, refl, ap, sym, ◌∙◌}
use Rattle.std.specs.declared.cmp.Ordering.{Ordering}
use Rattle.std.specs.declared.cmp.Ordering.TheVariants.{Less, Equal, Greater}
use Rattle.std.specs.Ordering.{eq_by_cmp, is_eq, match_ordering}
use Rattle.std.specs.Cmp.{IsTotalOrder, eq_by_cmp_equiv}
use Rattle.std.specs.List.{list_any}
use Rattle.std.specs.BTreeMap.{insert_entry, is_at}
use Rattle.std.specs.Map.{lookup, remove_entry}
use Rattle.std.specs.FinMap.Entries.{find, put, find-put, by_order}

module _ {K X : Type 0} (R : K → K → Ordering) where
  same_find : (q : K) (es : List (K × X)) → lookup (is_at (R q)) es ≡ find R q es
  same_find q [] = refl
  same_find q (e ∷ es) = ap (cond (is_eq (R q e.0)) (Some e.1)) (same_find q es)

  same_put : (k : K) (v : X) (es : List (K × X)) → insert_entry R es k v ≡ put R k v es
  same_put k v [] = refl
  same_put k v (e ∷ es) =
      elim (R k e.0) as (λ o. match_ordering o ((k, v) ∷ e ∷ es) ((e.0, v) ∷ es) (e ∷ insert_entry R es k v) ≡ by_order o ((k, v) ∷ e ∷ es) ((e.0, v) ∷ es) (e ∷ put R k v es)) [
        | Less ↦ refl
        | Equal ↦ refl
        | Greater ↦ ap (λ x. e ∷ x) (same_put k v es)
      ]

apart : {K : Type 0} {R : K → K → Ordering} (o : IsTotalOrder R) (k q x : K) → eq_by_cmp R k q ≡ false → eq_by_cmp R k x ≡ true → eq_by_cmp R q x ≡ false
apart {R = R} o k q x a h = (eq_by_cmp_equiv o).symm q x ∙ sym ((eq_by_cmp_equiv o).congr k x q h) ∙ a

module _ {K X : Type 0} {R : K → K → Ordering} (o : IsTotalOrder R) where
  pub lookup-insert_entry : (es : List (K × X)) (k : K) (v : X) (q : K) → lookup (is_at (R q)) (insert_entry R es k v) ≡ cond (eq_by_cmp R q k) (Some v) (lookup (is_at (R q)) es)
  lookup-insert_entry es k v q =
      same_find R q (insert_entry R es k v) ∙ ap (find R q) (same_put R k v es) ∙ find-put R o q k v es ∙ ap (cond (eq_by_cmp R q k) (Some v)) (sym (same_find R q es))

  pub lookup-remove_other : (es : List (K × X)) (k q : K) → eq_by_cmp R k q ≡ false → lookup (is_at (R q)) (remove_entry (is_at (R k)) es) ≡ lookup (is_at (R q)) es
  lookup-remove_other [] k q a = refl
  lookup-remove_other (e ∷ es) k q a =
      let tail = lookup-remove_other es k q a in
      elim (eq_by_cmp R k e.0) as (λ b. eq_by_cmp R k e.0 ≡ b → lookup (is_at (R q)) (cond b es (e ∷ remove_entry (is_at (R k)) es)) ≡ cond (eq_by_cmp R q e.0) (Some e.1) (lookup (is_at (R q)) es)) [
        | true ↦ λ h. rw (apart o k q e.0 a h)
        | false ↦ λ h. ap (cond (eq_by_cmp R q e.0) (Some e.1)) tail
      ] refl

either : (a b : Bool) → a ≡ true → (b || a) ≡ true
either a true h = refl
either a false h = h

-- whether a value passes a test, after a change
module _ {K X : Type 0} (p : X → Bool) where
  pub any-remove_entry : (test : K → Bool) (es : List (K × X)) → list_any (λ e. p e.1) (remove_entry test es) ≡ true → list_any (λ e. p e.1) es ≡ true
  any-remove_entry test [] h = h
  any-remove_entry test (e ∷ es) h =
      elim (test e.0) as (λ b. list_any (λ e. p e.1) (cond b es (e ∷ remove_entry test es)) ≡ true → (p e.1 || list_any (λ e. p e.1) es) ≡ true) [
        | true ↦ λ a. either _ (p e.1) a
        | false ↦ λ a. elim (p e.1) as (λ c. (c || list_any (λ e. p e.1) (remove_entry test es)) ≡ true → (c || list_any (λ e. p e.1) es) ≡ true) [
          | true ↦ λ _. refl
          | false ↦ λ a. any-remove_entry test es a
        ] a
      ] h

  pub any-insert_entry : (R : K → K → Ordering) (es : List (K × X)) (k : K) (v : X) → list_any (λ e. p e.1) (insert_entry R es k v) ≡ true → (p v || list_any (λ e. p e.1) es) ≡ true
  any-insert_entry R [] k v h = h
  any-insert_entry R (e ∷ es) k v h =
      let tail = any-insert_entry R es k v in
      elim (R k e.0) as (λ o. list_any (λ e. p e.1) (match_ordering o ((k, v) ∷ e ∷ es) ((e.0, v) ∷ es) (e ∷ insert_entry R es k v)) ≡ true → (p v || (p e.1 || list_any (λ e. p e.1) es)) ≡ true) [
        | Less ↦ λ a. a
        | Equal ↦ λ a. elim (p v) as (λ c. (c || list_any (λ e. p e.1) es) ≡ true → (c || (p e.1 || list_any (λ e. p e.1) es)) ≡ true) [ true ↦ λ _. refl | false ↦ λ a. either _ (p e.1) a ] a
        | Greater ↦ λ a. elim (p e.1) as (λ c. (c || list_any (λ e. p e.1) (insert_entry R es k v)) ≡ true → (p v || (c || list_any (λ e. p e.1) es)) ≡ true) [
          | true ↦ λ _. elim (p v) as (λ d. (d || true) ≡ true) [ true ↦ refl | false ↦ refl ]
          | false ↦ λ a. tail a
        ] a
      ] h
