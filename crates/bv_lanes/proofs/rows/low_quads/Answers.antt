use Rattle.std.proofs.Common.{◌≡◌, [], ◌∷◌, slice_index, refl}
use Rattle.bv_lanes.proofs.RowLemmas.{places, two_of}
use Rattle.bv_lanes.proofs.rows.low_quads.Goals as goal

pub returns : goal.returns
returns c =
    two_of (λ a b. places a b 0 1 8 9 4 5 12 13
    ≡ slice_index a 0 ∷ slice_index a 1 ∷ slice_index b 0 ∷ slice_index b 1 ∷ slice_index a 4 ∷ slice_index a 5 ∷ slice_index b 4 ∷ slice_index b 5 ∷ [])
    (λ a0 a1 a2 a3 a4 a5 a6 a7 b0 b1 b2 b3 b4 b5 b6 b7. refl) c.args.a c.args.b c.fits-a.0 c.fits-b.0
