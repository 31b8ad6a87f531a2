use Rattle.std.proofs.Common.{ℕ, ◌/◌, ◌^◌, ap, bit_xor, slice_index, arith}
use Rattle.bv_lanes.proofs.RotationLemmas.{rotated_two}
use Rattle.bv_lanes.proofs.functions.lower_sigma1.Goals as goal

pub returns : goal.returns
returns c j lt =
    rw (c.xor-2.ensures j lt, c.rotate-2.ensures.rotated j lt, c.xor.ensures j lt, c.rotate.ensures.rotated j lt, c.shift_right.ensures.shifted j lt)
    (ap (λ (n : ℕ). bit_xor n (slice_index c.args.x j / 2 ^ 10)) (rotated_two _ 17 2 (c.rotate.ensures.words j lt) (omega arith) (omega arith) (omega arith)))
