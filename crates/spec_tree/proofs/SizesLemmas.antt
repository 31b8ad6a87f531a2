-- The numbers of digests of the levels: they fall to one, and `levels_of` is the place where they do.
use Rattle.std.proofs.Common.{inl, inr, add-one, ◌≡◌, ℕ, zero, suc, ◌+◌, ◌*◌, ◌^◌, ◌<◌, ◌≤◌, Bool, true, false, List, [], ◌∷◌, ◌++◌, refl, sym, ap, subst, ◌∙◌, add-zero, zero-add, add-one, add-suc, add_comm, arith}
use Rattle.std.specs.Prelude.{max, if◌then◌else◌, ◌==◌}
use Rattle.std.specs.List.{range_with_len, sum_by}
use Rattle.std.specs.Int.{div_ceil}
use Rattle.std.proofs.lemmas.Bool.{lt-leb, cases_lt}
use Rattle.std.proofs.lemmas.List.Sums.{sum_by-append}
use Rattle.spec_tree.specs.Tree.{digests_at, levels_above, levels_of, data_blocks, need_of, tree_blocks_of}

-- a level has at least one digest
pub digests_at-some : (size level : ℕ) → 0 < digests_at size level
unfolding digests_at
digests_at-some size zero = omega arith
digests_at-some size (suc level) = omega (arith, digests_at-some size level)

-- level 0
pub digests_at-zero : (size : ℕ) → digests_at size 0 ≡ max 1 (data_blocks size)
unfolding digests_at
digests_at-zero size = refl

-- the next level
pub digests_at-more : (size level : ℕ) → digests_at size (level + 1) ≡ div_ceil (digests_at size level) 256
unfolding digests_at
digests_at-more size level = rw (add-suc level 0, add-zero level) refl

-- while levels have more than one digest, each has fewer than the last
falls : (size n : ℕ) → ((k : ℕ) → k < n → 1 < digests_at size k) → digests_at size n + n ≤ digests_at size 0
unfolding digests_at
falls size zero h = omega arith
falls size (suc n) h =
    let before = falls size n (λ k below. h k (omega arith)) in
    let here : 1 < digests_at size n = h n (omega arith) in
    omega (arith, before, here)

-- where there is one digest, there is no level above
levels_above-one : (more n : ℕ) → n ≡ 1 → levels_above more n ≡ 0
unfolding levels_above
levels_above-one zero n e = refl
levels_above-one (suc more) n e = rw e refl

-- where there is more than one, there is a level above
levels_above-many : (more n : ℕ) → 1 < n → levels_above (suc more) n ≡ levels_above more (div_ceil n 256) + 1
unfolding levels_above
levels_above-many more n h = rw (lt-leb n 1 h) refl

-- counted from a level on, the levels above it
counted : (size level n more : ℕ) → n ≤ more → digests_at size (level + n) ≡ 1
    → ((k : ℕ) → k < n → 1 < digests_at size (level + k)) → levels_above more (digests_at size level) ≡ n
counted size level zero more fuel top below = levels_above-one more _ (rw add-zero at top)
counted size level (suc n) zero fuel top below = absurd (omega (arith, fuel))
counted size level (suc n) (suc more) fuel top below =
    let many : 1 < digests_at size level = rw add-zero at (below 0 (omega arith)) in
    let next : levels_above more (digests_at size (level + 1)) ≡ n =
    counted size (level + 1) n more (omega (arith, fuel))
    (subst (λ (k : ℕ). digests_at size k ≡ 1) (omega arith) top)
    (λ k h. subst (λ (j : ℕ). 1 < digests_at size j) (omega arith) (below (k + 1) (omega (arith, h)))) in
    levels_above-many more _ many
    ∙ ap (λ (k : ℕ). levels_above more k + 1) (sym (digests_at-more size level))
    ∙ ap (λ (k : ℕ). k + 1) next
    ∙ omega arith

-- the number of levels is the first level with one digest
pub levels_of-is : (size n : ℕ) → digests_at size n ≡ 1 → ((k : ℕ) → k < n → 1 < digests_at size k) → levels_of size ≡ n
unfolding levels_of
levels_of-is size n top below =
    let fuel : n ≤ size = omega (arith, falls size n below, digests_at-zero size, top) in
    rw (← digests_at-zero size)
    (counted size 0 n size fuel (subst (λ (k : ℕ). digests_at size k ≡ 1) (omega arith) top)
    (λ k h. subst (λ (j : ℕ). 1 < digests_at size j) (omega arith) (below k h)))

-- the levels from a level on come to one digest, and those before have more
record Ending (size level : ℕ) : Type 0 where
  more : ℕ
  top : digests_at size (level + more) ≡ 1
  below : (k : ℕ) → k < more → 1 < digests_at size (level + k)

-- each level but the first has more digests, where the first has
below_first : (size level more : ℕ) → 1 < digests_at size level
    → ((k : ℕ) → k < more → 1 < digests_at size (level + 1 + k))
    → (k : ℕ) → k < suc more → 1 < digests_at size (level + k)
below_first size level more many below zero h = rw add-zero many
below_first size level more many below (suc k) h =
    subst (λ (j : ℕ). 1 < digests_at size j) (omega arith) (below k (omega (arith, h)))

-- so many digests come to one after fewer levels
ending : (size level fuel : ℕ) → digests_at size level ≤ fuel + 1 → Ending size level
ending size level zero h = record {
  more = 0;
  top = rw add-zero (omega (arith, h, digests_at-some size level));
  below = λ k none. absurd (omega (arith, none));
}
ending size level (suc fuel) h = elim (cases_lt 1 (digests_at size level)) [
  | inl many ↦
      let next = ending size (level + 1) fuel (omega (arith, h, many, digests_at-more size level)) in
      record {
        more = suc next.more;
        top = subst (λ (k : ℕ). digests_at size k ≡ 1) (omega arith) next.top;
        below = below_first size level next.more many next.below;
      }
  | inr one ↦ record {
    more = 0;
    top = rw add-zero (omega (arith, one, digests_at-some size level));
    below = λ k none. absurd (omega (arith, none));
  }
]

-- level 0 comes to one digest
ending-zero : (size : ℕ) → Ending size 0
ending-zero size = ending size 0 size (omega (arith, digests_at-zero size))

levels_of-ending : (size : ℕ) (e : Ending size 0) → levels_of size ≡ e.more
levels_of-ending size e =
    levels_of-is size e.more (subst (λ (k : ℕ). digests_at size k ≡ 1) (omega arith) e.top)
    (λ k h. subst (λ (j : ℕ). 1 < digests_at size j) (omega arith) (e.below k h))

-- the highest level has one digest
pub digests_at-top : (size : ℕ) → digests_at size (levels_of size) ≡ 1
digests_at-top size =
    let e = ending-zero size in
    rw (levels_of-ending size e) (subst (λ (k : ℕ). digests_at size k ≡ 1) (omega arith) e.top)

-- each level below has more
pub digests_at-below : (size k : ℕ) → k < levels_of size → 1 < digests_at size k
digests_at-below size k h =
    let e = ending-zero size in
    subst (λ (j : ℕ). 1 < digests_at size j) (omega arith) (e.below k (omega (arith, h, levels_of-ending size e)))

-- so many bytes as a u64 counts have at most 2 ^ 51 blocks
pub digests_at-0-few : (size : ℕ) → size < 2 ^ 64 → digests_at size 0 ≤ 2 ^ 51
digests_at-0-few size h = omega (arith, h, digests_at-zero size)

-- and one digest at level 7
pub digests_at-7-few : (size : ℕ) → size < 2 ^ 64 → digests_at size 7 ≤ 1
digests_at-7-few size h =
    let d0 = digests_at-0-few size h in
    let d1 : digests_at size 1 ≤ 2 ^ 43 = omega (arith, d0, digests_at-more size 0) in
    let d2 : digests_at size 2 ≤ 2 ^ 35 = omega (arith, digests_at-more size 1) in
    let d3 : digests_at size 3 ≤ 2 ^ 27 = omega (arith, digests_at-more size 2) in
    let d4 : digests_at size 4 ≤ 2 ^ 19 = omega (arith, digests_at-more size 3) in
    let d5 : digests_at size 5 ≤ 2 ^ 11 = omega (arith, digests_at-more size 4) in
    let d6 : digests_at size 6 ≤ 2 ^ 3 = omega (arith, digests_at-more size 5) in
    omega (arith, digests_at-more size 6)

-- a level that every level below has more digests than one is at most level 7
pub levels-few : (size level : ℕ) → size < 2 ^ 64 → ((k : ℕ) → k < level → 1 < digests_at size k) → level ≤ 7
levels-few size level h below =
    elim (cases_lt 7 level) [
      | inl over ↦ absurd (omega (arith, digests_at-7-few size h, below 7 over))
      | inr fine ↦ fine
    ]

pub levels_of-few : (size : ℕ) → size < 2 ^ 64 → levels_of size ≤ 7
levels_of-few size h = levels-few size (levels_of size) h (digests_at-below size)

-- ---- sums

-- one number more
pub range-suc : (a n : ℕ) → range_with_len a (suc n) ≡ range_with_len a n ++ (a + n) ∷ []
range-suc a zero = rw add-zero refl
range-suc a (suc n) =
    ap (λ (xs : List ℕ). a ∷ xs) (range-suc (a + 1) n)
    ∙ ap (λ (k : ℕ). a ∷ (range_with_len (a + 1) n ++ k ∷ [])) (omega arith)

-- a sum over one level more
pub sum_levels-more : (f : ℕ → ℕ) (a n : ℕ)
    → sum_by f (range_with_len a (suc n)) ≡ sum_by f (range_with_len a n) + f (a + n)
sum_levels-more f a n =
    ap (sum_by f) (range-suc a n)
    ∙ sum_by-append f (range_with_len a n) ((a + n) ∷ [])
    ∙ ap (λ (k : ℕ). sum_by f (range_with_len a n) + k) (zero-add (f (a + n)))

-- a sum of quotients, each rounded up, is no less than the quotient of the sum
sum_levels-ceil : (size n : ℕ)
    → div_ceil (sum_by (digests_at size) (range_with_len 0 n)) 256 ≤ sum_by (digests_at size) (range_with_len 1 n)
sum_levels-ceil size zero = omega arith
sum_levels-ceil size (suc n) =
    let next : digests_at size (1 + n) ≡ div_ceil (digests_at size (0 + n)) 256 =
    ap (digests_at size) (add_comm 1 n) ∙ digests_at-more size n
    ∙ ap (λ (k : ℕ). div_ceil (digests_at size k) 256) (sym (zero-add n)) in
    omega (arith, sum_levels-more (digests_at size) 0 n, sum_levels-more (digests_at size) 1 n, next, sum_levels-ceil size n)

-- the compact tree takes no more blocks
pub compact-le : (size : ℕ) → tree_blocks_of 2 size ≤ tree_blocks_of 1 size
unfolding tree_blocks_of
compact-le size = sum_levels-ceil size (levels_of size)

pub need-le : (size : ℕ) → need_of 2 size ≤ need_of 1 size
unfolding need_of
need-le size = omega (arith, compact-le size)

-- a tree has fewer blocks than its data, as far as the levels have more than one digest
pub sum_levels-small : (size n : ℕ) → ((k : ℕ) → k < n → 1 < digests_at size k)
    → sum_by (digests_at size) (range_with_len 1 n) + digests_at size n ≤ digests_at size 0
sum_levels-small size zero below = omega arith
sum_levels-small size (suc n) below =
    let next : digests_at size (1 + n) ≡ div_ceil (digests_at size n) 256 =
    ap (digests_at size) (add_comm 1 n) ∙ digests_at-more size n in
    let here : 1 < digests_at size n = below n (omega arith) in
    let same : digests_at size (suc n) ≡ digests_at size (1 + n) = ap (digests_at size) (omega arith) in
    omega (
      arith,
      sum_levels-more (digests_at size) 1 n,
      next,
      here,
      same,
      sum_levels-small size n (λ k h. below k (omega (arith, h))),
    )

-- the digests that levels of more than one hold, and twice those of the next, are few
pub sum_levels-held : (size n : ℕ) → ((k : ℕ) → k < n → 1 < digests_at size k)
    → sum_by (digests_at size) (range_with_len 0 n) + 2 * digests_at size n ≤ 2 * digests_at size 0
sum_levels-held size zero below = omega arith
sum_levels-held size (suc n) below =
    let next : digests_at size (suc n) ≡ div_ceil (digests_at size n) 256 =
    ap (digests_at size) (sym (add-one n)) ∙ digests_at-more size n in
    let here : 1 < digests_at size n = below n (omega arith) in
    let same : digests_at size (0 + n) ≡ digests_at size n = ap (digests_at size) (zero-add n) in
    omega (
      arith,
      sum_levels-more (digests_at size) 0 n,
      next,
      here,
      same,
      sum_levels-held size n (λ k h. below k (omega (arith, h))),
    )

-- what is above both is above either
either-lt : (b : Bool) (m n k : ℕ) → m < k → n < k → (if b then m else n) < k
either-lt true m n k p q = p
either-lt false m n k p q = q

-- a tree has fewer blocks than its data has digests
pub tree-small : (version size : ℕ) → tree_blocks_of version size < max 1 (data_blocks size)
unfolding tree_blocks_of
tree-small version size =
    let padded = sum_levels-small size (levels_of size) (digests_at-below size) in
    let compact = sum_levels-ceil size (levels_of size) in
    either-lt (version == 2) _ _ _
    (omega (arith, padded, compact, digests_at-zero size, digests_at-top size))
    (omega (arith, padded, digests_at-zero size, digests_at-top size))

-- a blob takes fewer than twice the blocks of its data, and one for a start
pub need-small : (version size : ℕ) → need_of version size ≤ 2 * data_blocks size
unfolding need_of
need-small version size = omega (arith, tree-small version size)
