-- Sums over all views, and the parts of one view.
use Rattle.std.proofs.Common.{◌≡◌, ◌≢◌, ℕ, zero, suc, ◌+◌, ◌-◌, ◌<◌, ◌≤◌, ◌==◌, inl, inr, eqb, true, false, List, [], ◌∷◌, ◌++◌, length, set, map, refl, sym, ap, ◌∙◌, subst, ⊎_elim, if◌then◌else◌, arith, eq-eqb, ne_eqb, None, Some}
use Rattle.std.proofs.lemmas.Bool.Decides.{nat_tests}
use Rattle.std.specs.List.{AllByRecursion}
use mathlib.Core.Logic.{dite}
use mathlib.Core.Option.{some, some-injective, some-ne-none}
use native.Mathlib.Decide.{ℕ_discrete}
use lib.ListN.{get_elem?}
use Rattle.atomic_table.proofs.Lists.{at_set}
use Rattle.bv_turn.specs.declared.view.Part.{Part}
use Rattle.bv_turn.specs.declared.view.View.{View}
use Rattle.bv_turn.specs.Views.{fresh, count_of, head_part, tail_parts, part, Has, total, EachView}

module _ {E B : Type 0} where
  pub total-set : (f : View E B → ℕ) (views : List (View E B)) (id : ℕ) (v w : View E B) → get_elem? views id ≡ some v → total f (set views id w) + f v ≡ total f views + f w
  total-set f [] id v w at = absurd (some-ne-none v (sym at))
  total-set f (x ∷ xs) zero v w at = let is : f x ≡ f v = ap f (some-injective x v at) in omega arith
  total-set f (x ∷ xs) (suc i) v w at = let r = total-set f xs i v w at in omega arith

  at_most : (f : View E B → ℕ) (views : List (View E B)) (id : ℕ) (v : View E B) → get_elem? views id ≡ some v → f v ≤ total f views
  at_most f [] id v at = absurd (some-ne-none v (sym at))
  at_most f (x ∷ xs) zero v at = let is : f x ≡ f v = ap f (some-injective x v at) in omega arith
  at_most f (x ∷ xs) (suc i) v at = let r = at_most f xs i v at in omega arith

  pub total_le : (f g : View E B → ℕ) (views : List (View E B)) → EachView (λ _ v. f v ≤ g v) views → total f views ≤ total g views
  total_le f g [] all = omega arith
  total_le f g (x ∷ xs) all = let r = total_le f g xs (λ id v at. all (suc id) v at) in let h = all 0 x refl in omega arith

  -- where f is at most g, the other views have at most as much more of f as of g
  pub others_le : (f g : View E B → ℕ) (views : List (View E B)) (id : ℕ) (v : View E B) → ((u : View E B) → f u ≤ g u) → get_elem? views id ≡ some v → total f views + g v ≤ total g views + f v
  others_le f g [] id v less at = absurd (some-ne-none v (sym at))
  others_le f g (x ∷ xs) zero v less at =
      let is : x ≡ v = some-injective x v at in let a = ap f is in let b = ap g is in let r = total_le f g xs (λ _ u _. less u) in omega arith
  others_le f g (x ∷ xs) (suc i) v less at = let r = others_le f g xs i v less at in let h = less x in omega arith

  pub two_le : (f : View E B → ℕ) (views : List (View E B)) (i j : ℕ) (v u : View E B) → j ≢ i → get_elem? views i ≡ some v → get_elem? views j ≡ some u → f v + f u ≤ total f views
  two_le f [] i j v u n a b = absurd (some-ne-none v (sym a))
  two_le f (x ∷ xs) zero zero v u n a b = absurd (n refl)
  two_le f (x ∷ xs) zero (suc j) v u n a b = let is : f x ≡ f v = ap f (some-injective x v a) in let r = at_most f xs j u b in omega arith
  two_le f (x ∷ xs) (suc i) zero v u n a b = let is : f x ≡ f u = ap f (some-injective x u b) in let r = at_most f xs i v a in omega arith
  two_le f (x ∷ xs) (suc i) (suc j) v u n a b = let r = two_le f xs i j v u (λ e. n (ap suc e)) a b in omega arith

  pub total-snoc : (f : View E B → ℕ) (views : List (View E B)) (w : View E B) → total f (views ++ w ∷ []) ≡ total f views + f w
  total-snoc f [] w = omega arith
  total-snoc f (x ∷ xs) w = let r = total-snoc f xs w in omega arith

  pub each_set : (F : ℕ → View E B → Type 0) (views : List (View E B)) (id : ℕ) (w : View E B) → F id w → ((j : ℕ) (u : View E B) → j ≢ id → get_elem? views j ≡ some u → F j u) → EachView F (set views id w)
  each_set F views id w mine others j u e = ⊎_elim (λ (x : (j ≡ id) × (w ≡ u)). subst (λ (y : ℕ × View E B). F y.0 y.1) (λ i. (sym x.0 i, x.1 i)) mine)
      (λ (x : (j ≢ id) × (get_elem? views j ≡ some u)). others j u x.0 x.1) (at_set views id j w u e)

  pub put_there : (views : List (View E B)) (id : ℕ) (v w : View E B) → get_elem? views id ≡ some v → get_elem? (set views id w) id ≡ some w
  put_there [] id v w at = absurd (some-ne-none v (sym at))
  put_there (x ∷ xs) zero v w at = refl
  put_there (x ∷ xs) (suc i) v w at = put_there xs i v w at

  -- views at one place are one view
  pub same_view : (views : List (View E B)) (i j : ℕ) (v u : View E B) → get_elem? views i ≡ some v → get_elem? views j ≡ some u → j ≡ i → u ≡ v
  same_view views i j v u a b e = some-injective u v (sym b ∙ ap (λ k. get_elem? views k) e ∙ a)

  -- a view with a ticket isn't the one that has none
  pub differs : (views : List (View E B)) (i j k : ℕ) (v u : View E B) → get_elem? views i ≡ some v → get_elem? views j ≡ some u → v.ticket ≡ None → u.ticket ≡ Some k → j ≢ i
  differs views i j k v u a b none_v some_u e = let t : u.ticket ≡ v.ticket = ap (λ (x : View E B). x.ticket) (same_view views i j v u a b e) in cc

  pub fresh-next : (s n : ℕ) (base : B) → 0 < n → fresh {E = E} s n base ≡ part s base [] ∷ fresh (s + 1) (n - 1) base
  fresh-next s zero base h = absurd (omega arith)
  fresh-next s (suc n) base h = let z : n ≡ suc n - 1 = omega arith in ap (λ (k : ℕ). part s base [] ∷ fresh {E = E} (s + 1) k base) z

  -- a list of parts with one session is one part
  pub only : (ps : List (Part E B)) (s : ℕ) → map (λ p. p.session) ps ≡ s ∷ [] → (p : Part E B) × (ps ≡ p ∷ []) × (p.session ≡ s)
  only [] s e = absurd (let l = ap length e in omega arith)
  only (p ∷ []) s e = (p, refl, (let z : p.session ≡ s = cc in z))
  only (p ∷ q ∷ ps) s e = absurd (let l = ap length e in omega arith)

  pub count_of-append : (n : ℕ) (ps qs : List (Part E B)) → count_of n (ps ++ qs) ≡ count_of n ps + count_of n qs
  count_of-append n [] qs = omega arith
  count_of-append n (p ∷ ps) qs = let r = count_of-append n ps qs in omega arith

  pub count_of-one : (n : ℕ) (b : B) (es : List (ℕ × E)) → count_of n (part n b es ∷ []) ≡ 1
  count_of-one n b es = grind (arith, nat_tests)

  pub count_of-peel : (n : ℕ) (ps : List (Part E B)) → count_of n (tail_parts ps) + count_of n (head_part ps) ≡ count_of n ps
  count_of-peel n [] = omega arith
  count_of-peel n (p ∷ ps) = omega arith

  pub count_of_le : (n : ℕ) (ps : List (Part E B)) → count_of n ps ≤ length ps
  count_of_le n [] = omega arith
  count_of_le n (p ∷ ps) = let r = count_of_le n ps in dite (ℕ_discrete p.session n)
      (λ (e : p.session ≡ n). rw (eq-eqb p.session n e) (omega arith))
      (λ (e : p.session ≢ n). rw (ne_eqb p.session n e) (omega arith))

  -- a session that is counted has a part
  pub Has-from_count : (n : ℕ) (ps : List (Part E B)) → 0 < count_of n ps → Has n ps
  Has-from_count n [] h = absurd (omega arith)
  Has-from_count n (p ∷ ps) h = dite (ℕ_discrete p.session n)
      (λ (e : p.session ≡ n). inl e)
      (λ (e : p.session ≢ n). inr (Has-from_count n ps (let t : eqb p.session n ≡ false = ne_eqb p.session n e in grind (arith, nat_tests))))

  pub length-peel : (ps : List (Part E B)) → length (tail_parts ps) + length (head_part ps) ≡ length ps
  length-peel [] = omega arith
  length-peel (p ∷ ps) = omega arith

  pub each_tail : (F : Part E B → Type 0) (ps : List (Part E B)) → AllByRecursion F ps → AllByRecursion F (tail_parts ps)
  each_tail F [] h = tt
  each_tail F (p ∷ ps) h = h.1

  pub each_head : (F : Part E B → Type 0) (ps : List (Part E B)) → AllByRecursion F ps → AllByRecursion F (head_part ps)
  each_head F [] h = tt
  each_head F (p ∷ ps) h = (h.0, tt)

  -- a fact of the parts of other sessions
  pub each_other : (F G : Part E B → Type 0) (n : ℕ) → ((p : Part E B) → p.session ≢ n → F p → G p) → (ps : List (Part E B)) → count_of n ps ≡ 0 → AllByRecursion F ps → AllByRecursion G ps
  each_other F G n f [] none_here h = tt
  each_other F G n f (p ∷ ps) none_here h = (f p (λ e. let t : eqb p.session n ≡ true = eq-eqb p.session n e in absurd (grind (arith, nat_tests))) h.0, each_other F G n f ps (omega arith) h.1)

-- the function with one more place
abbrev pub sent_to : (ℕ → ℕ) → ℕ → ℕ → ℕ → ℕ
sent_to f k id n = if n == k then id else f n

pub sent_here : (f : ℕ → ℕ) (k id : ℕ) → sent_to f k id k ≡ id
sent_here f k id = rw (eq-eqb k k refl) refl

pub sent_else : (f : ℕ → ℕ) (k id n : ℕ) → n ≢ k → sent_to f k id n ≡ f n
sent_else f k id n e = rw (ne_eqb n k e) refl
