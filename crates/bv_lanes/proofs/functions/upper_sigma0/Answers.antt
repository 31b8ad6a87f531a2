use Rattle.std.proofs.Common.{arith}
use Rattle.bv_lanes.proofs.RotationLemmas.{rotated_three}
use Rattle.bv_lanes.proofs.functions.upper_sigma0.Goals as goal

pub returns : goal.returns
returns c j lt =
    rw (c.rotate-3.ensures.rotated j lt, c.xor-2.ensures j lt, c.rotate-2.ensures.rotated j lt, c.xor.ensures j lt, c.rotate.ensures.rotated j lt)
    (rotated_three _ 2 11 9 (c.rotate.ensures.words j lt) (omega arith) (omega arith) (omega arith) (omega arith))
