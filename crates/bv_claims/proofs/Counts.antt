-- How often blocks stand in lists, and sums over all views.
use Rattle.std.proofs.Common.{◌≡◌, ◌≢◌, ℕ, zero, suc, ◌+◌, ◌<◌, ◌≤◌, Bool, false, List, [], ◌∷◌, ◌++◌, length, set, sym, refl, ap, subst, ⊎_elim, if◌then◌else◌, arith}
use Rattle.std.proofs.lemmas.Bool.Decides.{nat_tests}
use mathlib.Core.Logic.{dite}
use native.Mathlib.Decide.{ℕ_discrete}
use mathlib.Core.Option.{some, some-injective, some-ne-none}
use lib.ListN.{get_elem?}
use Rattle.atomic_table.proofs.Lists.{at_set}
use Rattle.bv_claims.specs.declared.rule.View.{View}
use Rattle.bv_claims.specs.Blocks.{times, without}
use Rattle.bv_claims.specs.Views.{boss_count}
use Rattle.bv_claims.specs.Rule.{total}

pub times-append : (b : ℕ) (xs ys : List ℕ) → times b (xs ++ ys) ≡ times b xs + times b ys
times-append b [] ys = omega arith
times-append b (x ∷ xs) ys = let r = times-append b xs ys in omega arith

pub times_same : (b : ℕ) → times b (b ∷ []) ≡ 1
times_same b = grind (arith, nat_tests)

pub times_other : (c b : ℕ) → c ≢ b → times c (b ∷ []) ≡ 0
times_other c b n = grind (arith, nat_tests)

pub times-without : (c b : ℕ) (xs : List ℕ) → 0 < times b xs → times c (without b xs) + times c (b ∷ []) ≡ times c xs
times-without c b [] h = absurd (omega arith)
times-without c b (x ∷ xs) h =
    dite (ℕ_discrete x b) (λ e. grind (arith, nat_tests)) (λ n. let r = times-without c b xs (grind (arith, nat_tests)) in grind (arith, nat_tests))

pub length-without : (b : ℕ) (xs : List ℕ) → 0 < times b xs → length (without b xs) + 1 ≡ length xs
length-without b [] h = absurd (omega arith)
length-without b (x ∷ xs) h =
    dite (ℕ_discrete x b) (λ e. grind (arith, nat_tests)) (λ n. let r = length-without b xs (grind (arith, nat_tests)) in grind (arith, nat_tests))

pub times-le-length : (b : ℕ) (xs : List ℕ) → times b xs ≤ length xs
times-le-length b [] = omega arith
times-le-length b (x ∷ xs) = let r = times-le-length b xs in dite (ℕ_discrete x b) (λ e. grind (arith, nat_tests)) (λ n. grind (arith, nat_tests))

-- one view changes: the sum changes by as much
pub total-set : (f : View → ℕ) (views : List View) (id : ℕ) (v w : View) → get_elem? views id ≡ some v → total f (set views id w) + f v ≡ total f views + f w
total-set f [] id v w at = absurd (some-ne-none v (sym at))
total-set f (x ∷ xs) zero v w at = let is : f x ≡ f v = ap f (some-injective x v at) in omega arith
total-set f (x ∷ xs) (suc i) v w at = let r = total-set f xs i v w at in omega arith

pub total-snoc : (f : View → ℕ) (views : List View) (w : View) → total f (views ++ w ∷ []) ≡ total f views + f w
total-snoc f [] w = omega arith
total-snoc f (x ∷ xs) w = let r = total-snoc f xs w in omega arith

pub le-total : (f : View → ℕ) (views : List View) (id : ℕ) (v : View) → get_elem? views id ≡ some v → f v ≤ total f views
le-total f [] id v at = absurd (some-ne-none v (sym at))
le-total f (x ∷ xs) zero v at = let is : f x ≡ f v = ap f (some-injective x v at) in omega arith
le-total f (x ∷ xs) (suc i) v at = let r = le-total f xs i v at in omega arith

pub total-le : (f g : View → ℕ) → ((u : View) → f u ≤ g u) → (views : List View) → total f views ≤ total g views
total-le f g le [] = omega arith
total-le f g le (x ∷ xs) = let r = total-le f g le xs in let k = le x in omega arith

-- f is at most g everywhere, so all views but one have no more of f than of g
pub total-others : (f g : View → ℕ) → ((u : View) → f u ≤ g u) → (views : List View) (id : ℕ) (v : View) → get_elem? views id ≡ some v → total f views + g v ≤ total g views + f v
total-others f g le [] id v at = absurd (some-ne-none v (sym at))
total-others f g le (x ∷ xs) zero v at =
    let is : f x ≡ f v = ap f (some-injective x v at) in let is' : g x ≡ g v = ap g (some-injective x v at) in let r = total-le f g le xs in omega arith
total-others f g le (x ∷ xs) (suc i) v at = let r = total-others f g le xs i v at in let k = le x in omega arith

-- two views have no more than all together
pub total-two : (f : View → ℕ) (views : List View) (i j : ℕ) (v w : View) → i ≢ j → get_elem? views i ≡ some v → get_elem? views j ≡ some w → f v + f w ≤ total f views
total-two f [] i j v w n at at' = absurd (some-ne-none v (sym at))
total-two f (x ∷ xs) zero zero v w n at at' = absurd (n refl)
total-two f (x ∷ xs) zero (suc j) v w n at at' = let is : f x ≡ f v = ap f (some-injective x v at) in let r = le-total f xs j w at' in omega arith
total-two f (x ∷ xs) (suc i) zero v w n at at' = let is : f x ≡ f w = ap f (some-injective x w at') in let r = le-total f xs i v at in omega arith
total-two f (x ∷ xs) (suc i) (suc j) v w n at at' = let r = total-two f xs i j v w (λ e. n (ap suc e)) at at' in omega arith

-- what fits each view fits each view after one has changed
pub all_set : (F : ℕ → View → Type 0) (views : List View) (id : ℕ) (w : View) → F id w → ((j : ℕ) (u : View) → j ≢ id → get_elem? views j ≡ some u → F j u)
    → (j : ℕ) (u : View) → get_elem? (set views id w) j ≡ some u → F j u
all_set F views id w mine others j u e = ⊎_elim
    (λ (x : (j ≡ id) × (w ≡ u)). subst (λ (y : ℕ × View). F y.0 y.1) (λ i. (sym x.0 i, x.1 i)) mine)
    (λ (x : (j ≢ id) × (get_elem? views j ≡ some u)). others j u x.0 x.1)
    (at_set views id j w u e)

pub boss_count_same : (v w : View) → w.boss ≡ v.boss → boss_count w ≡ boss_count v
boss_count_same v w e = let f : Bool → ℕ = λ k. if k then 1 else 0 in ap f e

pub boss_count_none : (v : View) → v.boss ≡ false → boss_count v ≡ 0
boss_count_none v e = let f : Bool → ℕ = λ k. if k then 1 else 0 in ap f e
