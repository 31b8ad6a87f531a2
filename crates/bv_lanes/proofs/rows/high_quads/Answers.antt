use Rattle.std.proofs.Common.{◌≡◌, [], ◌∷◌, slice_index, refl}
use Rattle.bv_lanes.proofs.RowLemmas.{places, two_of}
use Rattle.bv_lanes.proofs.rows.high_quads.Goals as goal

pub returns : goal.returns
returns c =
    two_of (λ a b. places a b 2 3 10 11 6 7 14 15
    ≡ slice_index a 2 ∷ slice_index a 3 ∷ slice_index b 2 ∷ slice_index b 3 ∷ slice_index a 6 ∷ slice_index a 7 ∷ slice_index b 6 ∷ slice_index b 7 ∷ [])
    (λ a0 a1 a2 a3 a4 a5 a6 a7 b0 b1 b2 b3 b4 b5 b6 b7. refl) c.args.a c.args.b c.fits-a.0 c.fits-b.0
