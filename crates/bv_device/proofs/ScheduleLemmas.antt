-- One call later, number by number.
use Rattle.std.proofs.Common.{◌≡◌, ◌<◌, ℕ, zero, suc, ◌-◌, List, [], ◌∷◌, ◌++◌, length, take, drop, refl, ap, arith, set, get_or}
use Rattle.bv_device.specs.Memory.{one_call_later}

-- the first i of these numbers are one call later
abbrev pub partly_later : ℕ → List ℕ → List ℕ
partly_later i fails = one_call_later (take i fails) ++ drop i fails

pub partly_later-next : (fails : List ℕ) (i : ℕ) → i < length fails → set (partly_later i fails) i (get_or fails i 0 - 1) ≡ partly_later (suc i) fails
partly_later-next [] i below = absurd (omega (arith, below))
partly_later-next (n ∷ fails) zero below = refl
partly_later-next (n ∷ fails) (suc i) below = ap (λ (l : List ℕ). (n - 1) ∷ l) (partly_later-next fails i (omega (arith, below)))

pub partly_later-same : (fails : List ℕ) (i : ℕ) → get_or (partly_later i fails) i 0 ≡ get_or fails i 0
partly_later-same [] zero = refl
partly_later-same [] (suc i) = refl
partly_later-same (n ∷ fails) zero = refl
partly_later-same (n ∷ fails) (suc i) = partly_later-same fails i
