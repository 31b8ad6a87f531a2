-- Runs of blocks: one block more, and which blocks stand in one.
use Rattle.std.proofs.Common.{◌≡◌, ℕ, zero, suc, ◌+◌, ◌<◌, ◌≤◌, List, [], ◌∷◌, ◌++◌, length, refl, ap, sym, ◌-◌, ◌∙◌, arith}
use Rattle.bv_claims.specs.Blocks.{times, consecutive}
use Rattle.bv_claims.proofs.Marks.{times-consecutive, in_consecutive}

pub length-consecutive : (b n : ℕ) → length (consecutive b n) ≡ n
length-consecutive b zero = refl
length-consecutive b (suc n) = ap suc (length-consecutive (b + 1) n)

next_block : (b n : ℕ) → b + 1 + n ≡ b + suc n
next_block b n = omega arith

pub consecutive-more : (b n : ℕ) → consecutive b (suc n) ≡ consecutive b n ++ (b + n) ∷ []
consecutive-more b zero = ap (λ (k : ℕ). k ∷ []) (omega arith)
consecutive-more b (suc n) =
    ap (λ (bs : List ℕ). b ∷ bs) (consecutive-more (b + 1) n ∙ ap (λ (k : ℕ). consecutive (b + 1) n ++ k ∷ []) (next_block b n))

none_of : {n : ℕ} → (0 < n → ⊥) → n ≡ 0
none_of h = omega arith

-- the block after a run stands not in it
pub after_run : (b n : ℕ) → times (b + n) (consecutive b n) ≡ 0
after_run b n = none_of (λ some. let r = times-consecutive (b + n) b n some in absurd (omega arith))

-- a run of blocks below a bound ends by it, or is empty
pub run_ends : (b n most top : ℕ) → b < top → most < top → ((c : ℕ) → 0 < times c (consecutive b n) → c < most) → b + n < top
run_ends b zero most top low high below = omega arith
run_ends b (suc n) most top low high below =
    let last = below (b + n) (in_consecutive (b + n) b (suc n) (omega arith) (omega arith)) in omega arith

run_ahead : {b k : ℕ} → b ≤ k → k + 1 - b ≡ suc (k - b)
run_ahead h = omega arith

run_at : {b k : ℕ} → b ≤ k → b + (k - b) ≡ k
run_at h = omega arith

-- a run up to a block, and with that block
pub up_to_more : (b k : ℕ) → b ≤ k → consecutive b (k + 1 - b) ≡ consecutive b (k - b) ++ k ∷ []
up_to_more b k h =
    ap (consecutive b) (run_ahead h) ∙ consecutive-more b (k - b) ∙ ap (λ (c : ℕ). consecutive b (k - b) ++ c ∷ []) (run_at h)

-- the block at the end of a run up to it stands not in the run
pub after_up_to : (b k : ℕ) → b ≤ k → times k (consecutive b (k - b)) ≡ 0
after_up_to b k h = ap (λ (c : ℕ). times c (consecutive b (k - b))) (sym (run_at h)) ∙ after_run b (k - b)
