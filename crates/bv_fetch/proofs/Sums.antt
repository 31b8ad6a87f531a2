-- How many digests some levels have.
use Rattle.std.proofs.Common.{◌≡◌, ℕ, zero, suc, ◌+◌, ◌-◌, ◌<◌, ◌≤◌, ◌^◌, ap, ◌∙◌, sym, subst, arith, length, replicate}
use Rattle.std.proofs.lemmas.List.{length-replicate}
use Rattle.std.specs.Int.{div_ceil}
use Rattle.std.specs.List.{range_with_len, sum_by}
use Rattle.spec_tree.specs.Tree.{digests_at, windows_of}
use Rattle.spec_tree.proofs.SizesLemmas.{sum_levels-more, digests_at-0-few, digests_at-more}
use Rattle.spec_window.specs.Window.{index_above}
use Rattle.spec_window.proofs.HonestLemmas.{index_there}

-- a block above a window is one of its level
pub index-there : (size w level : ℕ) → w < windows_of size → index_above w level < digests_at size level
index-there size w level there =
    let v = replicate size 0 in
    let is : length v ≡ size = length-replicate size 0 in
    subst (λ (n : ℕ). index_above w level < digests_at n level) is (index_there v w (subst (λ (n : ℕ). w < windows_of n) (sym is) there) level)

-- more levels have more
sum-more : (f : ℕ → ℕ) (a n k : ℕ) → sum_by f (range_with_len a n) ≤ sum_by f (range_with_len a (n + k))
sum-more f a n zero = omega (arith, ap (λ (x : ℕ). sum_by f (range_with_len a x)) (let e : n + 0 ≡ n = omega arith in e))
sum-more f a n (suc k) =
    let up : n + suc k ≡ suc (n + k) = omega arith in
    omega (arith, sum-more f a n k, sum_levels-more f a (n + k), ap (λ (x : ℕ). sum_by f (range_with_len a x)) up)

pub sum-within : (f : ℕ → ℕ) (a n m : ℕ) → n ≤ m → sum_by f (range_with_len a n) ≤ sum_by f (range_with_len a m)
sum-within f a n m few =
    let is : n + (m - n) ≡ m = omega (arith, few) in
    subst (λ (x : ℕ). sum_by f (range_with_len a n) ≤ sum_by f (range_with_len a x)) is (sum-more f a n (m - n))

-- a level and those below it
pub sum-next : (f : ℕ → ℕ) (a level top : ℕ) → 1 ≤ level → level ≤ top → sum_by f (range_with_len a (level - 1)) + f (a + (level - 1)) ≤ sum_by f (range_with_len a top)
sum-next f a level top low high =
    let up : suc (level - 1) ≡ level = omega (arith, low) in
    omega (arith, sum_levels-more f a (level - 1), ap (λ (x : ℕ). sum_by f (range_with_len a x)) up, sum-within f a level top high)

-- no level has more digests than the data
pub digests-few : (size level : ℕ) → size < 2 ^ 64 → digests_at size level ≤ 2 ^ 51
digests-few size zero fits = digests_at-0-few size fits
digests-few size (suc level) fits =
    let up : level + 1 ≡ suc level = omega arith in
    let next : digests_at size (suc level) ≡ div_ceil (digests_at size level) 256 = ap (digests_at size) (sym up) ∙ digests_at-more size level in
    omega (arith, next, digests-few size level fits)
