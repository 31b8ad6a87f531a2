-- The entries of one session in a history that grows.
use Rattle.std.proofs.Common.{◌≡◌, ◌≢◌, ℕ, suc, ◌+◌, ◌==◌, Bool, true, false, List, [], ◌∷◌, ◌++◌, length, map, refl, ap, ◌∙◌, if◌then◌else◌, arith, eq-eqb, ne_eqb}
use Rattle.bv_turn.specs.Entries.{entries_of, numbered}

choose_snoc : {A : Type 0} (b : Bool) (a : A) (x y z : List A) → x ≡ y ++ z → (if b then a ∷ x else x) ≡ (if b then a ∷ y else y) ++ z
choose_snoc true a x y z e = ap (λ l. a ∷ l) e
choose_snoc false a x y z e = e

choose_map : {A B : Type 0} (b : Bool) (f : A → B) (a : A) (x : List A) (y : List B) → map f x ≡ y → map f (if b then a ∷ x else x) ≡ (if b then f a ∷ y else y)
choose_map true f a x y e = ap (λ l. f a ∷ l) e
choose_map false f a x y e = e

module _ {E : Type 0} (session : E → ℕ) where
  -- without their numbers, they are the session's entries
  pub numbered-entries_of : (s n : ℕ) (es : List E) → map (λ x. x.1) (numbered session s n es) ≡ entries_of session s es
  numbered-entries_of s n [] = refl
  numbered-entries_of s n (e ∷ es) = choose_map (session e == s) (λ (x : ℕ × E). x.1) (n, e) (numbered session s (n + 1) es) (entries_of session s es) (numbered-entries_of s (n + 1) es)

  numbered_same : (s n : ℕ) (xs : List E) (e : E) → session e ≡ s → numbered session s n (xs ++ e ∷ []) ≡ numbered session s n xs ++ (n + length xs, e) ∷ []
  numbered_same s n [] e is = let z : n ≡ n + 0 = omega arith in rw (eq-eqb (session e) s is) (ap (λ (k : ℕ). (k, e) ∷ []) z)
  numbered_same s n (x ∷ xs) e is = let r = numbered_same s (n + 1) xs e is in let z : (n + 1) + length xs ≡ n + suc (length xs) = omega arith in
      choose_snoc (session x == s) (n, x) (numbered session s (n + 1) (xs ++ e ∷ [])) (numbered session s (n + 1) xs) ((n + suc (length xs), e) ∷ []) (r ∙ ap (λ (k : ℕ). numbered session s (n + 1) xs ++ (k, e) ∷ []) z)

  -- an entry of the session comes last, with the history's length as its number
  pub numbered-snoc_same : (s : ℕ) (xs : List E) (e : E) → session e ≡ s → numbered session s 0 (xs ++ e ∷ []) ≡ numbered session s 0 xs ++ (length xs, e) ∷ []
  numbered-snoc_same s xs e is = let z : 0 + length xs ≡ length xs = omega arith in numbered_same s 0 xs e is ∙ ap (λ (k : ℕ). numbered session s 0 xs ++ (k, e) ∷ []) z

  -- an entry of another session changes nothing
  pub numbered-snoc_other : (s n : ℕ) (xs : List E) (e : E) → session e ≢ s → numbered session s n (xs ++ e ∷ []) ≡ numbered session s n xs
  numbered-snoc_other s n [] e is = rw (ne_eqb (session e) s is) refl
  numbered-snoc_other s n (x ∷ xs) e is = let r = numbered-snoc_other s (n + 1) xs e is in ap (λ (l : List (ℕ × E)). if session x == s then (n, x) ∷ l else l) r
