-- What writes of blocks one after another leave on a disk.
use Rattle.std.proofs.Common.{◌≡◌, ◌<◌, ◌≤◌, ℕ, zero, suc, ◌+◌, List, [], ◌∷◌, length, refl, ap, ◌∙◌, arith, set, get_or}
use Rattle.std.proofs.lemmas.List.{get_or-set_same, get_or-set_other, length-set}
use Rattle.spec_disk.specs.Disk.{block, now_after}
use Rattle.bv_device.specs.Plan.{writes}

-- a block before the first place stays
pub now-writes_before : (d : List (List ℕ)) (at : ℕ) (blocks : List (List ℕ)) (b : ℕ) → b < at → block (now_after d (writes at blocks)) b ≡ block d b
now-writes_before d at [] b below = refl
now-writes_before d at (bytes ∷ rest) b below =
    now-writes_before (set d at bytes) (at + 1) rest b (omega (arith, below)) ∙ get_or-set_other d at b bytes [] (λ e. absurd (omega (arith, e, below)))

-- each place has its block
pub now-writes_at : (d : List (List ℕ)) (at : ℕ) (blocks : List (List ℕ)) (k : ℕ) → k < length blocks → at + length blocks ≤ length d → block (now_after d (writes at blocks)) (at + k) ≡ get_or blocks k []
now-writes_at d at [] k below fits = absurd (omega (arith, below))
now-writes_at d at (bytes ∷ rest) zero below fits =
    let here : at + 0 ≡ at = omega arith in
    ap (λ (n : ℕ). block (now_after (set d at bytes) (writes (at + 1) rest)) n) here
    ∙ now-writes_before (set d at bytes) (at + 1) rest at (omega arith)
    ∙ get_or-set_same d at bytes [] (omega (arith, fits))
now-writes_at d at (bytes ∷ rest) (suc k) below fits =
    let there : at + suc k ≡ (at + 1) + k = omega arith in
    ap (λ (n : ℕ). block (now_after (set d at bytes) (writes (at + 1) rest)) n) there
    ∙ now-writes_at (set d at bytes) (at + 1) rest k (omega (arith, below)) (omega (arith, fits, length-set d at bytes))
