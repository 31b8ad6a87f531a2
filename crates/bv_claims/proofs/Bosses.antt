-- What the boss has after a claim was completed, and lists of blocks in rising order.
use Rattle.std.proofs.Common.{◌≡◌, ◌≢◌, ℕ, zero, suc, ◌+◌, ◌<◌, ◌≤◌, ◌==◌, List, [], ◌∷◌, ◌++◌, length, get_or, take, if◌then◌else◌, sym, refl, ap, ◌∙◌, arith, length-append, append_assoc}
use Rattle.std.specs.List.{sum_by}
use Rattle.std.specs.List.Sorted.{IsPermutation, IsNonDecreasing}
use Rattle.std.proofs.lemmas.List.Sorted.{sum_by-IsPermutation}
use Rattle.std.proofs.lemmas.List.Sums.{sum_by-cons}
use Rattle.std.proofs.lemmas.Bool.Decides.{nat_tests}
use Rattle.std.proofs.lemmas.List.{take_more}
use mathlib.Core.Logic.{dite}
use native.Mathlib.Decide.{ℕ_discrete}
use Rattle.bv_claims.specs.declared.rule.View.{View}
use Rattle.bv_claims.specs.Blocks.{times, HaveSameBlocks, HasEachOnce, Rises}
use Rattle.bv_claims.specs.Views.{after_join}
use Rattle.bv_claims.specs.Steps.{IsReviewed}
use Rattle.bv_claims.specs.Search.{HasSearched, HasCompleted}
use Rattle.bv_claims.proofs.Counts.{times-append}

times_is_sum : (b : ℕ) (xs : List ℕ) → times b xs ≡ sum_by (λ x. if x == b then 1 else 0) xs
times_is_sum b [] = refl
times_is_sum b (x ∷ xs) = ap (λ (n : ℕ). (if x == b then 1 else 0) + n) (times_is_sum b xs) ∙ sym (sum_by-cons (λ y. if y == b then 1 else 0) x xs)

pub same_blocks : (xs ys : List ℕ) → IsPermutation xs ys → HaveSameBlocks ys xs
same_blocks xs ys p b = times_is_sum b ys ∙ sum_by-IsPermutation (λ x. if x == b then 1 else 0) xs ys p ∙ sym (times_is_sum b xs)

none_under : (x b : ℕ) (xs : List ℕ) → ((j : ℕ) → j < length xs → x ≤ get_or xs j x) → b < x → times b xs ≡ 0
none_under x b [] above low = refl
none_under x b (y ∷ ys) above low =
    let here : x ≤ y = above 0 (omega arith) in
    let r = none_under x b ys (λ j small. above (suc j) (omega arith)) low in
    let other : y ≢ b = λ e. absurd (omega arith) in grind (arith, nat_tests)

from_not : {x low : ℕ} → (x < low → ⊥) → low ≤ x
from_not h = omega arith

below_not : {x high : ℕ} → (high ≤ x → ⊥) → x < high
below_not h = omega arith

-- blocks that don't fall and stand once each rise
pub rises_of : (low high : ℕ) (xs : List ℕ) → IsNonDecreasing xs → HasEachOnce xs → ((b : ℕ) → b < low → times b xs ≡ 0) → ((b : ℕ) → high ≤ b → times b xs ≡ 0) → Rises low xs high
rises_of low high [] sorted once under over = tt
rises_of low high (x ∷ xs) sorted once under over =
    let here : 0 < times x (x ∷ xs) = grind (arith, nat_tests) in
    let above : (j : ℕ) → j < length xs → x ≤ get_or xs j x = λ j small. sorted 0 (suc j) x (omega arith) (omega arith) in (
      from_not (λ less. let z = under x less in absurd (omega arith)),
      below_not (λ more. let z = over x more in absurd (omega arith)),
      rises_of (x + 1) high xs (λ i j d le small. sorted (suc i) (suc j) d (omega arith) (omega arith)) (λ b. let o = once b in omega arith)
          (λ b small. dite (ℕ_discrete b x)
          (λ (e : b ≡ x). let o = once b in let one : times b (x ∷ xs) ≡ 1 + times b xs = grind (arith, nat_tests) in omega arith)
          (λ (n : b ≢ x). none_under x b xs above (omega arith)))
          (λ b far. let z = over b far in omega arith),
    )

pub completed : (blocks : ℕ) (v o : View) (had : List ℕ) (left : ℕ) (w : View) (has : List ℕ) → 2 ≤ blocks → v.blocks ≡ blocks → v.budget ≡ 0 → had ≡ o.owned → left ≡ o.budget
    → HasSearched 1 blocks (after_join v o) had w has → IsReviewed w → HasCompleted v had left w has
completed blocks v o had left w has some_block of_table idle listed tied s r =
    let blocks_is : w.blocks ≡ blocks = s.same.1 ∙ of_table in
    let spent : w.budget ≡ 0 = dite (ℕ_discrete w.budget 0) (λ (e : w.budget ≡ 0). e) (λ (n : w.budget ≢ 0). r.complete (λ b low high. s.tried (omega arith) b low (omega arith))) in
    let has_is : has ≡ had ++ s.more = s.listed in
    let count = ap length has_is in let len = length-append had s.more in let bud = s.budget in record {
      owned = s.owned ∙ append_assoc v.owned o.owned s.more ∙ ap (λ xs. v.owned ++ xs) (sym (has_is ∙ ap (λ xs. xs ++ s.more) listed));
      count = omega arith;
      kept = λ b. let t = ap (times b) has_is ∙ times-append b had s.more in omega arith;
      spent = spent;
      same = s.same;
      once = r.once;
      within = r.within;
      accounted = let a = r.accounted in omega arith;
    }

-- a list with its entries up to the index i, and with one more
pub times-take : (xs : List ℕ) (i : ℕ) → i < length xs → (b : ℕ) → times b (take i xs) + times b (get_or xs i 0 ∷ []) ≤ times b xs
times-take [] i h b = absurd (omega arith)
times-take (x ∷ xs) zero h b = omega arith
times-take (x ∷ xs) (suc i) h b = let r = times-take xs i (omega arith) b in omega arith

pub times-take-more : (xs : List ℕ) (i : ℕ) → i < length xs → (b : ℕ) → times b (take (i + 1) xs) ≡ times b (take i xs) + times b (get_or xs i 0 ∷ [])
times-take-more xs i h b = ap (times b) (take_more xs i 0 h) ∙ times-append b (take i xs) (get_or xs i 0 ∷ [])
