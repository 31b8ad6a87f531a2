use Rattle.std.proofs.Common.{◌≡◌, ℕ, ◌<◌, ◌*◌, ◌%◌, ◌^◌, [], ◌∷◌, slice_index, refl}
use Rattle.std.specs.Simd.Lanes.{zip2}
use Rattle.bv_lanes.proofs.LaneLemmas.{each_lane, eight_of}
use Rattle.bv_lanes.proofs.vectors.shift_left.Goals as goal

pub returns : goal.returns
returns c =
    let k = c.args.bits in
    eight_of (λ x. (j : ℕ) → j < 8 → slice_index (zip2 (λ x n. x * 2 ^ n % 2 ^ 32) x (k ∷ k ∷ k ∷ k ∷ k ∷ k ∷ k ∷ k ∷ [])) j ≡ slice_index x j * 2 ^ k % 2 ^ 32)
    (λ a b d e f g h i. each_lane _ refl refl refl refl refl refl refl refl) c.args.x c.fits-x.0
