-- Searches one after another make one search.
use Rattle.std.proofs.Common.{◌≡◌, ◌≢◌, ℕ, ◌+◌, ◌/◌, ◌%◌, ◌^◌, ◌<◌, ◌≤◌, List, [], ◌∷◌, ◌++◌, sym, refl, ap, ◌∙◌, subst, arith, length-append, append_assoc}
use Rattle.std.proofs.lemmas.Bool.Decides.{nat_tests}
use mathlib.Core.Logic.{dite}
use native.Mathlib.Decide.{ℕ_discrete, dec_lt}
use Rattle.std.proofs.lemmas.List.{append-nil}
use Rattle.bv_claims.specs.declared.rule.View.{View}
use Rattle.bv_claims.specs.Blocks.{times, CoverAllFrom1, Rises, IsInCyclicOrder, blocks_of_word}
use Rattle.bv_claims.specs.Views.{after_win, after_loss, after_full_word}
use Rattle.bv_claims.specs.Search.{HasSearched}
use Rattle.bv_claims.proofs.Counts.{times-append, times_same}
use Rattle.bv_claims.proofs.Marks.{in_word}
use Rattle.std.specs.Int.{bit_at}
use mathlib.Core.Option.{none}
use Rattle.atomic_table.specs.Table.{step}
use Rattle.bv_claims.specs.Steps.{Seated, ClaimTells}

pub Rises-append : (low middle high : ℕ) (xs ys : List ℕ) → low ≤ middle → middle ≤ high → Rises low xs middle → Rises middle ys high → Rises low (xs ++ ys) high
Rises-append low middle high [] [] l m r s = tt
Rises-append low middle high [] (y ∷ ys) l m r s = (omega (arith, s.0), s.1, s.2)
Rises-append low middle high (x ∷ xs) ys l m r s = (r.0, omega (arith, r.1), Rises-append (x + 1) middle high xs ys (omega (arith, r.1)) m r.2 s)

-- no block was searched, or no budget is left
pub searched_none : (low high : ℕ) (v : View) (had : List ℕ) → (0 < v.budget → high ≤ low) → HasSearched low high v had v had
searched_none low high v had why = record {
  more = [];
  rising = tt;
  owned = sym (append-nil v.owned);
  listed = sym (append-nil had);
  budget = omega arith;
  saw = λ b. omega arith;
  same = (refl, refl, refl);
  tried = λ some_left b l h. let w = why some_left in absurd (omega arith);
}

-- the block was free
pub searched_win : (b : ℕ) (v : View) (had : List ℕ) → 0 < v.budget → HasSearched b (b + 1) v had (after_win b v) (had ++ b ∷ [])
searched_win b v had some_left = record {
  more = b ∷ [];
  rising = (omega arith, omega arith, tt);
  owned = refl;
  listed = refl;
  budget = omega arith;
  saw = λ c. omega arith;
  same = (refl, refl, refl);
  tried = λ _ c l h. let e : c ≡ b = omega arith in
      subst (λ (z : ℕ). 0 < times z (v.owned ++ b ∷ []) + times z v.saw) (sym e) (let a = times-append b v.owned (b ∷ []) in let o = times_same b in omega arith);
}

-- the block was taken
pub searched_loss : (b : ℕ) (v : View) (had : List ℕ) → HasSearched b (b + 1) v had (after_loss b v) had
searched_loss b v had = record {
  more = [];
  rising = tt;
  owned = sym (append-nil v.owned);
  listed = sym (append-nil had);
  budget = omega arith;
  saw = λ c. let a = times-append c v.saw (b ∷ []) in omega arith;
  same = (refl, refl, refl);
  tried = λ _ c l h. let e : c ≡ b = omega arith in
      subst (λ (z : ℕ). 0 < times z v.owned + times z (v.saw ++ b ∷ [])) (sym e) (let a = times-append b v.saw (b ∷ []) in let o = times_same b in omega arith);
}

-- every block of the word was taken
pub searched_full : (low high word : ℕ) (v : View) (had : List ℕ) → ((b : ℕ) → low ≤ b → b < high → b / 64 ≡ word) → HasSearched low high v had (after_full_word word v) had
searched_full low high word v had inside = record {
  more = [];
  rising = tt;
  owned = sym (append-nil v.owned);
  listed = sym (append-nil had);
  budget = omega arith;
  saw = λ c. let a = times-append c v.saw (blocks_of_word word) in omega arith;
  same = (refl, refl, refl);
  tried = λ _ c l h. let a = times-append c v.saw (blocks_of_word word) in let i = in_word c word (inside c l h) in omega arith;
}

-- first up to the middle, and then from there on
pub searched_both : (low middle high : ℕ) (u : View) (has₀ : List ℕ) (v : View) (has₁ : List ℕ) (w : View) (has₂ : List ℕ) → low ≤ middle → middle ≤ high
    → HasSearched low middle u has₀ v has₁ → HasSearched middle high v has₁ w has₂ → HasSearched low high u has₀ w has₂
searched_both low middle high u has₀ v has₁ w has₂ l m a b = record {
  more = a.more ++ b.more;
  rising = Rises-append low middle high a.more b.more l m a.rising b.rising;
  owned = b.owned ∙ ap (λ xs. xs ++ b.more) a.owned ∙ append_assoc u.owned a.more b.more;
  listed = b.listed ∙ ap (λ xs. xs ++ b.more) a.listed ∙ append_assoc has₀ a.more b.more;
  budget = let n = length-append a.more b.more in let x = a.budget in let y = b.budget in omega arith;
  saw = λ c. let x = a.saw c in let y = b.saw c in omega arith;
  same = (b.same.0 ∙ a.same.0, b.same.1 ∙ a.same.1, b.same.2 ∙ a.same.2);
  tried = λ some_left c low_c high_c. elim (dec_lt c middle) [
    | yes h ↦ (let x = a.tried (let y = b.budget in omega arith) c low_c h in let s = b.saw c in let o = ap (times c) b.owned in let t = times-append c v.owned b.more in omega arith)
    | no h ↦ b.tried some_left c (omega arith) high_c
  ];
}

-- a search that has spent the budget has searched all that is above too
pub searched_spent : (low middle high : ℕ) (v : View) (had : List ℕ) (w : View) (has : List ℕ) → low ≤ middle → middle ≤ high → w.budget ≡ 0
    → HasSearched low middle v had w has → HasSearched low high v had w has
searched_spent low middle high v had w has l m spent a = searched_both low middle high v had w has w has l m a (searched_none middle high w has (λ some_left. absurd (omega arith)))

-- what a try of a block tells
pub searched_try : (b found : ℕ) (m m' : Seated) (k slots : ℕ) (had has : List ℕ) → 0 < m.0.budget → k ≡ 2 ^ (b % 64) → ClaimTells (step slots (b / 64) k 0 none) m found m'
    → (bit_at found (b % 64) ≡ 0 → has ≡ had ++ b ∷ []) → (bit_at found (b % 64) ≢ 0 → has ≡ had) → HasSearched b (b + 1) m.0 had m'.0 has
searched_try b found m m' k slots had has some_left e told won lost = dite (ℕ_discrete (bit_at found (b % 64)) 0)
    (λ (free : bit_at found (b % 64) ≡ 0).
    subst (λ (x : View × List ℕ). HasSearched b (b + 1) m.0 had x.0 x.1) (λ i. (sym ((told.1 b (refl, e)).0 free) i, sym (won free) i)) (searched_win b m.0 had some_left))
    (λ (taken : bit_at found (b % 64) ≢ 0).
    subst (λ (x : View × List ℕ). HasSearched b (b + 1) m.0 had x.0 x.1) (λ i. (sym ((told.1 b (refl, e)).1 taken) i, sym (lost taken) i)) (searched_loss b m.0 had))

none_of : (n : ℕ) → (0 < n → ⊥) → n ≤ 0
none_of n h = omega arith

-- blocks that rise stand once each, in their range
pub Rises-range : (low high : ℕ) (xs : List ℕ) → Rises low xs high → (b : ℕ) → 0 < times b xs → (low ≤ b) × (b < high)
Rises-range low high [] r b h = absurd (omega arith)
Rises-range low high (x ∷ xs) r b h = dite (ℕ_discrete x b)
    (λ (e : x ≡ b). (omega (arith, r.0), omega (arith, r.1)))
    (λ (n : x ≢ b). let t = Rises-range (x + 1) high xs r.2 b (grind (arith, nat_tests)) in (omega (arith, r.0), omega arith))

pub Rises-once : (low high : ℕ) (xs : List ℕ) → Rises low xs high → (b : ℕ) → times b xs ≤ 1
Rises-once low high [] r b = omega arith
Rises-once low high (x ∷ xs) r b = dite (ℕ_discrete x b)
    (λ (e : x ≡ b). let none : times b xs ≤ 0 = none_of (times b xs) (λ some_b. let t = Rises-range (x + 1) high xs r.2 b some_b in absurd (omega arith)) in grind (arith, nat_tests))
    (λ (n : x ≢ b). let t = Rises-once (x + 1) high xs r.2 b in grind (arith, nat_tests))

pub cyclic_range : (start blocks : ℕ) (bs : List ℕ) → 1 ≤ start → start < blocks → IsInCyclicOrder start blocks bs → (b : ℕ) → 0 < times b bs → (1 ≤ b) × (b < blocks)
cyclic_range start blocks bs low high o b h =
    let t = ap (times b) o.parts ∙ times-append b o.from_start o.from_one in
    dite (ℕ_discrete (times b o.from_start) 0)
    (λ (e : times b o.from_start ≡ 0). let r = Rises-range 1 start o.from_one o.second b (omega arith) in (r.0, omega arith))
    (λ (n : times b o.from_start ≢ 0). let r = Rises-range start blocks o.from_start o.first b (omega arith) in (omega arith, r.1))

pub cyclic_once : (start blocks : ℕ) (bs : List ℕ) → IsInCyclicOrder start blocks bs → (b : ℕ) → times b bs ≤ 1
cyclic_once start blocks bs o b =
    let t = ap (times b) o.parts ∙ times-append b o.from_start o.from_one in
    let x = Rises-once start blocks o.from_start o.first b in let y = Rises-once 1 start o.from_one o.second b in
    elim (dec_lt b start) [
      | yes low ↦ (let none : times b o.from_start ≤ 0 = none_of (times b o.from_start) (λ some_b. let r = Rises-range start blocks o.from_start o.first b some_b in absurd (omega arith)) in omega arith)
      | no high ↦ (let none : times b o.from_one ≤ 0 = none_of (times b o.from_one) (λ some_b. let r = Rises-range 1 start o.from_one o.second b some_b in absurd (omega arith)) in omega arith)
    ]

-- from the start to the last block, and then from block 1 to the start
pub searched_round : (start blocks : ℕ) (u : View) (has₀ : List ℕ) (v : View) (has₁ : List ℕ) (w : View) (has₂ : List ℕ)
    → HasSearched start blocks u has₀ v has₁ → HasSearched 1 start v has₁ w has₂ → 0 < w.budget → CoverAllFrom1 blocks w.owned w.saw
searched_round start blocks u has₀ v has₁ w has₂ a b some_left c low high = elim (dec_lt c start) [
  | yes h ↦ b.tried some_left c low h
  | no h ↦ (let x = a.tried (let y = b.budget in omega arith) c (omega arith) high in let s = b.saw c in let o = ap (times c) b.owned in let t = times-append c v.owned b.more in omega arith)
]

pub round_order : (start blocks : ℕ) (u : View) (had : List ℕ) (v : View) (has₁ : List ℕ) (w : View) (has₂ : List ℕ) → had ≡ []
    → HasSearched start blocks u had v has₁ → HasSearched 1 start v has₁ w has₂ → IsInCyclicOrder start blocks has₂
round_order start blocks u had v has₁ w has₂ empty a b = record {
  from_start = a.more;
  from_one = b.more;
  parts = b.listed ∙ ap (λ xs. xs ++ b.more) (a.listed ∙ ap (λ xs. xs ++ a.more) empty);
  first = a.rising;
  second = b.rising;
}

-- the list of gains goes with what the seat owns
pub listed_is : (low middle lower higher : ℕ) (u : View) (had : List ℕ) (v : View) (has₁ : List ℕ) (w : View) (has₂ : List ℕ) → had ≡ u.owned
    → HasSearched low middle u had v has₁ → HasSearched lower higher v has₁ w has₂ → has₂ ≡ w.owned
listed_is low middle lower higher u had v has₁ w has₂ same a b =
    b.listed ∙ ap (λ xs. xs ++ b.more) (a.listed ∙ ap (λ xs. xs ++ a.more) same ∙ sym a.owned) ∙ sym b.owned
