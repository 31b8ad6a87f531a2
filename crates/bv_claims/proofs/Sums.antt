-- A table has only so many blocks: sums over the blocks 1 .. n, and what they say of the boss.
use Rattle.std.proofs.Common.{◌≡◌, ◌≢◌, ℕ, zero, suc, ◌+◌, ◌-◌, ◌<◌, ◌≤◌, true, List, [], ◌∷◌, length, sym, refl, ap, ◌∙◌, subst, inl, inr, arith}
use Rattle.std.proofs.lemmas.Bool.Decides.{nat_tests}
use mathlib.Core.Logic.{dite}
use native.Mathlib.Decide.{ℕ_discrete, dec_lt}
use mathlib.Core.Option.{some}
use lib.ListN.{get_elem?}
use Rattle.atomic_table.specs.Table.{State}
use Rattle.bv_claims.specs.declared.rule.View.{View}
use Rattle.bv_claims.specs.Blocks.{times, CoverAllFrom1}
use Rattle.bv_claims.specs.Views.{worth}
use Rattle.bv_claims.specs.Rule.{mark, total, owns, IsOutside, IsReserved}
use Rattle.bv_claims.specs.Steps.{IsReviewed}
use Rattle.bv_claims.proofs.Counts.{times_same, times_other, le-total}
use Rattle.bv_claims.proofs.Marks.{mark-le-1}

-- the sum of f at 1 .. n
abbrev pub up_to : (ℕ → ℕ) → ℕ → ℕ
up_to f zero = 0
up_to f (suc n) = f (suc n) + up_to f n

up_to-add : (f g h : ℕ → ℕ) (n : ℕ) → ((b : ℕ) → h b ≡ f b + g b) → up_to h n ≡ up_to f n + up_to g n
up_to-add f g h zero e = omega arith
up_to-add f g h (suc n) e = let r = up_to-add f g h n e in let k = e (suc n) in omega arith

up_to_none : (f : ℕ → ℕ) (n : ℕ) → ((b : ℕ) → f b ≡ 0) → up_to f n ≡ 0
up_to_none f zero e = refl
up_to_none f (suc n) e = let r = up_to_none f n e in let k = e (suc n) in omega arith

up_to_all : (f : ℕ → ℕ) (n : ℕ) → ((b : ℕ) → 1 ≤ b → b ≤ n → f b ≡ 1) → up_to f n ≡ n
up_to_all f zero h = refl
up_to_all f (suc n) h = let r = up_to_all f n (λ b low high. h b low (omega arith)) in let k = h (suc n) (omega arith) (omega arith) in omega arith

up_to_most : (f : ℕ → ℕ) (n : ℕ) → ((b : ℕ) → 1 ≤ b → b ≤ n → f b ≤ 1) → up_to f n ≤ n
up_to_most f zero h = omega arith
up_to_most f (suc n) h = let r = up_to_most f n (λ b low high. h b low (omega arith)) in let k = h (suc n) (omega arith) (omega arith) in omega arith

-- where each is at most 1 and one is 0, the sum is below n
pub up_to_gap : (f : ℕ → ℕ) (n b : ℕ) → ((c : ℕ) → 1 ≤ c → c ≤ n → f c ≤ 1) → 1 ≤ b → b ≤ n → f b ≡ 0 → up_to f n < n
up_to_gap f zero b h low high gap = absurd (omega arith)
up_to_gap f (suc n) b h low high gap = dite (ℕ_discrete b (suc n))
    (λ (e : b ≡ suc n). let r = up_to_most f n (λ c low_c high_c. h c low_c (omega arith)) in let z : f (suc n) ≡ 0 = ap f (sym e) ∙ gap in omega arith)
    (λ (e : b ≢ suc n). let r = up_to_gap f n b (λ c low_c high_c. h c low_c (omega arith)) low (omega arith) gap in let k = h (suc n) (omega arith) (omega arith) in omega arith)

-- one block x, counted at 1 .. n
up_to_one : (x n : ℕ) → (up_to (λ b. times b (x ∷ [])) n ≤ 1) × (n < x → up_to (λ b. times b (x ∷ [])) n ≡ 0) × (1 ≤ x → x ≤ n → up_to (λ b. times b (x ∷ [])) n ≡ 1)
up_to_one x zero = (omega arith, (λ _. refl), λ low high. absurd (omega arith))
up_to_one x (suc n) = let r = up_to_one x n in let r₀ = r.0 in dite (ℕ_discrete x (suc n))
    (λ (e : x ≡ suc n). let z = r.1 (omega arith) in let o = times_same x in let t : times (suc n) (x ∷ []) ≡ 1 = ap (λ (k : ℕ). times k (x ∷ [])) (sym e) ∙ o in
    (omega arith, (λ low. absurd (omega arith)), λ low high. omega arith))
    (λ (e : x ≢ suc n). let o = times_other (suc n) x (λ z. e (sym z)) in
    (omega arith, (λ low. let z = r.1 (omega arith) in omega arith), λ low high. let z = r.2 low (omega arith) in omega arith))

-- a list has no more blocks than it is long
up_to-le-length : (xs : List ℕ) (n : ℕ) → up_to (λ b. times b xs) n ≤ length xs
up_to-le-length [] n = let r : up_to (λ b. times b []) n ≡ 0 = up_to_none _ n (λ b. refl) in omega arith
up_to-le-length (x ∷ xs) n =
    let r = up_to-le-length xs n in let o = (up_to_one x n).0 in
    let a = up_to-add (λ b. times b (x ∷ [])) (λ b. times b xs) (λ b. times b (x ∷ xs)) n (λ b. omega arith) in omega arith

low_of : (x : ℕ) → (x ≢ 0) → 1 ≤ x
low_of x n = omega arith

high_of : (x n : ℕ) → (n + 1 ≤ x → ⊥) → x ≤ n
high_of x n h = omega arith

-- a list whose blocks are all from 1 to n is as long as they are many
pub up_to-length : (xs : List ℕ) (n : ℕ) → ((b : ℕ) → IsOutside (n + 1) b → times b xs ≡ 0) → up_to (λ b. times b xs) n ≡ length xs
up_to-length [] n within = up_to_none (λ b. times b []) n (λ b. refl)
up_to-length (x ∷ xs) n within =
    let r = up_to-length xs n (λ b out. let k = within b out in omega arith) in
    let here : 0 < times x (x ∷ xs) = grind (arith, nat_tests) in
    let low : 1 ≤ x = low_of x (λ e. let k = within x (inl e) in absurd (omega arith)) in
    let high : x ≤ n = high_of x n (λ e. let k = within x (inr e) in absurd (omega arith)) in
    let o = (up_to_one x n).2 low high in
    let a = up_to-add (λ b. times b (x ∷ [])) (λ b. times b xs) (λ b. times b (x ∷ xs)) n (λ b. omega arith) in omega arith

up_to-total : (views : List View) (n : ℕ) → up_to (λ b. total (owns b) views) n ≤ total (λ v. length v.owned) views
up_to-total [] n = let r : up_to (λ b. total (owns b) []) n ≡ 0 = up_to_none _ n (λ b. refl) in omega arith
up_to-total (v ∷ vs) n =
    let r = up_to-total vs n in let o = up_to-le-length v.owned n in
    let a = up_to-add (λ b. owns b v) (λ b. total (owns b) vs) (λ b. total (owns b) (v ∷ vs)) n (λ b. refl) in omega arith

total-add : (f g h : View → ℕ) (views : List View) → ((v : View) → f v + g v ≤ h v) → total f views + total g views ≤ total h views
total-add f g h [] e = omega arith
total-add f g h (v ∷ vs) e = let r = total-add f g h vs e in let k = e v in omega arith

module _ (blocks : ℕ) (s : State (Unit {0}) View) (h : IsReserved blocks s) (id : ℕ) (v : View) (at : get_elem? s.views id ≡ some v) where
  -- a seat owns no block twice, and none outside the table
  pub owned_once : (b : ℕ) → 1 ≤ b → b < blocks → times b v.owned ≤ 1
  owned_once b low high = let m = h.marked b low high in let one = mark-le-1 s.words b in let most : owns b v ≤ total (owns b) s.views = le-total (owns b) s.views id v at in omega arith

  pub owned_within : (b : ℕ) → IsOutside blocks b → times b v.owned ≡ 0
  owned_within b out = let z = h.within b out in let most : owns b v ≤ total (owns b) s.views = le-total (owns b) s.views id v at in omega arith

  pub worth_within : worth v ≤ blocks - 1
  worth_within = let z = h.accounted in let most : worth v ≤ total worth s.views = le-total worth s.views id v at in omega arith

  -- who owns less than all there is has room for one more
  pub room_for : (b : ℕ) → 1 ≤ b → b < blocks → times b v.owned ≡ 0 → length v.owned + v.room ≡ blocks - 1 → 0 < v.room
  room_for b low high not_owned idle =
      let n : ℕ = blocks - 1 in
      let is : n + 1 ≡ blocks = omega arith in
      let less : up_to (λ c. times c v.owned) n < n = up_to_gap (λ c. times c v.owned) n b (λ c low_c high_c. owned_once c low_c (omega arith)) low (omega arith) not_owned in
      let all : up_to (λ c. times c v.owned) n ≡ length v.owned = up_to-length v.owned n (λ c out. owned_within c (subst (λ m. IsOutside m c) is out)) in
      omega arith

  -- a boss who owns or saw each block has no budget left: what it saw is taken, so all blocks are taken, and no block is left to spend a budget on
  pub nothing_left : v.boss ≡ true → CoverAllFrom1 blocks v.owned v.saw → v.budget ≡ 0
  nothing_left boss cover =
      let each : (b : ℕ) → 1 ≤ b → b ≤ blocks - 1 → total (owns b) s.views ≡ 1 = λ b low high.
      let m = h.marked b low (omega arith) in let one = mark-le-1 s.words b in
      let most : owns b v ≤ total (owns b) s.views = le-total (owns b) s.views id v at in
      let tried = cover b low (omega arith) in
      dite (ℕ_discrete (times b v.saw) 0)
      (λ (e : times b v.saw ≡ 0). omega arith)
      (λ (e : times b v.saw ≢ 0). let taken : mark s.words b ≡ 1 = (h.fit id v at).2 boss b (omega arith) in omega arith) in
      let all = up_to_all (λ b. total (owns b) s.views) (blocks - 1) each in
      let owned = up_to-total s.views (blocks - 1) in
      let both = total-add (λ u. length u.owned) (λ u. u.budget) worth s.views (λ u. omega arith) in
      let budget : v.budget ≤ total (λ u. u.budget) s.views = le-total (λ u. u.budget) s.views id v at in
      let sum = h.accounted in omega arith

  pub reviewed : v.boss ≡ true → v.blocks ≡ blocks → IsReviewed v
  reviewed boss of_table = record {
    once = λ b. dite (ℕ_discrete b 0)
        (λ (e : b ≡ 0). let z = owned_within b (inl e) in omega arith)
        (λ (e : b ≢ 0). elim (dec_lt b blocks) [ yes high ↦ owned_once b (omega arith) high | no far ↦ let z = owned_within b (inr (omega arith)) in omega arith ]);
    within = λ b out. owned_within b (subst (λ n. IsOutside n b) of_table out);
    accounted = let w = worth_within in omega arith;
    complete = λ cover. nothing_left boss (λ b low high. cover b low (omega arith));
  }
