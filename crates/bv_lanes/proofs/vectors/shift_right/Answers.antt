use Rattle.std.proofs.Common.{◌≡◌, ℕ, ◌<◌, ◌/◌, ◌^◌, [], ◌∷◌, slice_index, refl, arith}
use Rattle.std.specs.Simd.Lanes.{zip2}
use Rattle.std.proofs.lemmas.Simd.{Each1-get_or, below_from_Fits}
use Rattle.std.specs.Int.{w32}
use Rattle.bv_lanes.proofs.LaneLemmas.{each_lane, eight_of}
use Rattle.bv_lanes.proofs.vectors.shift_right.Goals as goal

pub returns-clause-shifted : goal.returns-clause-shifted
returns-clause-shifted c =
    let k = c.args.bits in
    eight_of (λ x. (j : ℕ) → j < 8 → slice_index (zip2 (λ x n. x / 2 ^ n) x (k ∷ k ∷ k ∷ k ∷ k ∷ k ∷ k ∷ k ∷ [])) j ≡ slice_index x j / 2 ^ k)
    (λ a b d e f g h i. each_lane _ refl refl refl refl refl refl refl refl) c.args.x c.fits-x.0

pub returns-clause-words : goal.returns-clause-words
returns-clause-words c j lt =
    Each1-get_or (λ x. x < 2 ^ 32) c.args.x j 0 (omega (arith, c.fits-x.0)) (below_from_Fits w32 c.args.x c.fits-x.1)
