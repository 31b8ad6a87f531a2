use Rattle.std.proofs.Common.{◌≡◌, [], ◌∷◌, get_or, map, refl}
use Rattle.bv_lanes.proofs.LaneLemmas.{eight_of}
use Rattle.bv_merkle.proofs.SideLemmas.{digest_of}
use Rattle.bv_merkle.proofs.window.named.Goals as goal

pub returns : goal.returns
returns c =
    eight_of (λ xs. digest_of (get_or xs 0 []) ∷ digest_of (get_or xs 1 []) ∷ digest_of (get_or xs 2 []) ∷ digest_of (get_or xs 3 [])
    ∷ digest_of (get_or xs 4 []) ∷ digest_of (get_or xs 5 []) ∷ digest_of (get_or xs 6 []) ∷ digest_of (get_or xs 7 []) ∷ [] ≡ map digest_of xs)
    (λ a b d e f g h i. refl) c.args.digests.now c.told-digests
