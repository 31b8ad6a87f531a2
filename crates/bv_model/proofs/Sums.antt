-- Sums over the values of a map, one entry more.
use Rattle.std.proofs.Common.{◌≡◌, ℕ, ◌+◌, Bool, true, false, cond, not, ◌&&◌, ◌||◌, List, [], ◌∷◌, ◌++◌, map, refl, ap, ◌∙◌, arith}
use Rattle.std.specs.List.{sum_by, list_any}
use Rattle.std.specs.Map.{values_of, remove_entry}
use Rattle.std.proofs.lemmas.List.{map-append}
use Rattle.std.proofs.lemmas.List.Folds.{list_any-append}
use Rattle.std.proofs.lemmas.List.Sums.{sum_by-append}

module _ {X : Type 0} (f : X → ℕ) where
  pub sum_by-push : (xs : List X) (x : X) → sum_by f (xs ++ x ∷ []) ≡ sum_by f xs + f x
  sum_by-push xs x = omega (arith, sum_by-append f xs (x ∷ []))

module _ {K X : Type 0} (f : X → ℕ) (test : K → Bool) where
  cons : (x : K × X) (es : List (K × X)) → sum_by f (values_of (x ∷ es)) ≡ f x.1 + sum_by f (values_of es)
  cons x es = omega (arith, sum_by-append f (x.1 ∷ []) (values_of es))

  values-push : (es : List (K × X)) (e : K × X) → sum_by f (values_of (es ++ e ∷ [])) ≡ sum_by f (values_of es) + f e.1
  values-push [] e = omega arith
  values-push (x ∷ es) e = let h = values-push es e in cons x (es ++ e ∷ []) ∙ omega (arith, h, cons x es)

  -- the sum without the first entry that passes the test
  pub sum_but-push : (es : List (K × X)) (e : K × X) → sum_by f (values_of (remove_entry test (es ++ e ∷ []))) ≡ sum_by f (values_of (remove_entry test es)) + cond (not (list_any (λ x. test x.0) es) && test e.0) 0 (f e.1)
  sum_but-push [] e = go (test e.0)
    where
      go : (b : Bool) → sum_by f (values_of (cond b [] (e ∷ []))) ≡ 0 + cond b 0 (f e.1)
      go true = omega arith
      go false = omega arith
  sum_but-push (x ∷ es) e = go (sum_but-push es e) (test x.0)
    where
      go : sum_by f (values_of (remove_entry test (es ++ e ∷ []))) ≡ sum_by f (values_of (remove_entry test es)) + cond (not (list_any (λ x. test x.0) es) && test e.0) 0 (f e.1)
          → (b : Bool) → sum_by f (values_of (cond b (es ++ e ∷ []) (x ∷ remove_entry test (es ++ e ∷ [])))) ≡ sum_by f (values_of (cond b es (x ∷ remove_entry test es))) + cond (not (b || list_any (λ x. test x.0) es) && test e.0) 0 (f e.1)
      go h true = values-push es e
      go h false = cons x (remove_entry test (es ++ e ∷ [])) ∙ omega (arith, h, cons x (remove_entry test es))

-- the same, over the items that a loop was given
module _ {K X Y : Type 0} (f : X → ℕ) (test : K → Bool) (g : Y → K × X) where
  pub any_given : (ys : List Y) (y : Y) → list_any (λ e. test e.0) (map g (ys ++ y ∷ [])) ≡ (list_any (λ e. test e.0) (map g ys) || test (g y).0)
  any_given ys y = ap (list_any (λ e. test e.0)) (map-append g ys (y ∷ [])) ∙ list_any-append (λ e. test e.0) (map g ys) (g y ∷ []) ∙ ap (λ b. list_any (λ e. test e.0) (map g ys) || b) (last (test (g y).0))
    where
      last : (b : Bool) → (b || false) ≡ b
      last true = refl
      last false = refl

  given : (ys : List Y) (y : Y) → sum_by f (values_of (remove_entry test (map g (ys ++ y ∷ [])))) ≡ sum_by f (values_of (remove_entry test (map g ys))) + cond (not (list_any (λ x. test x.0) (map g ys)) && test (g y).0) 0 (f (g y).1)
  given ys y = ap (λ es. sum_by f (values_of (remove_entry test es))) (map-append g ys (y ∷ [])) ∙ sum_but-push f test (map g ys) (g y)

  -- the first item that passes the test isn't counted
  pub sum_skips : (ys : List Y) (y : Y) → list_any (λ e. test e.0) (map g ys) ≡ false → test (g y).0 ≡ true → sum_by f (values_of (remove_entry test (map g (ys ++ y ∷ [])))) ≡ sum_by f (values_of (remove_entry test (map g ys)))
  sum_skips ys y none here = given ys y ∙ ap (λ (b : Bool). sum_by f (values_of (remove_entry test (map g ys))) + cond (not b && test (g y).0) 0 (f (g y).1)) none ∙ ap (λ (b : Bool). sum_by f (values_of (remove_entry test (map g ys))) + cond b 0 (f (g y).1)) here ∙ omega arith

  -- an item after it is
  pub sum_counts_later : (ys : List Y) (y : Y) → list_any (λ e. test e.0) (map g ys) ≡ true → sum_by f (values_of (remove_entry test (map g (ys ++ y ∷ [])))) ≡ sum_by f (values_of (remove_entry test (map g ys))) + f (g y).1
  sum_counts_later ys y some = given ys y ∙ ap (λ (b : Bool). sum_by f (values_of (remove_entry test (map g ys))) + cond (not b && test (g y).0) 0 (f (g y).1)) some

  -- and so is one that doesn't pass
  pub sum_counts_other : (ys : List Y) (y : Y) → test (g y).0 ≡ false → sum_by f (values_of (remove_entry test (map g (ys ++ y ∷ [])))) ≡ sum_by f (values_of (remove_entry test (map g ys))) + f (g y).1
  sum_counts_other ys y other = given ys y ∙ ap (λ (b : Bool). sum_by f (values_of (remove_entry test (map g ys))) + cond (not (list_any (λ e. test e.0) (map g ys)) && b) 0 (f (g y).1)) other ∙ ap (λ (b : Bool). sum_by f (values_of (remove_entry test (map g ys))) + cond b 0 (f (g y).1)) (never (list_any (λ e. test e.0) (map g ys)))
    where
      never : (b : Bool) → (not b && false) ≡ false
      never true = refl
      never false = refl

  pub any_other : (ys : List Y) (y : Y) → test (g y).0 ≡ false → list_any (λ e. test e.0) (map g (ys ++ y ∷ [])) ≡ list_any (λ e. test e.0) (map g ys)
  any_other ys y other = any_given ys y ∙ ap (λ b. list_any (λ e. test e.0) (map g ys) || b) other ∙ go (list_any (λ e. test e.0) (map g ys))
    where
      go : (b : Bool) → (b || false) ≡ b
      go true = refl
      go false = refl

  pub any_later : (ys : List Y) (y : Y) → list_any (λ e. test e.0) (map g ys) ≡ true → list_any (λ e. test e.0) (map g (ys ++ y ∷ [])) ≡ true
  any_later ys y some = any_given ys y ∙ ap (λ b. b || test (g y).0) some
