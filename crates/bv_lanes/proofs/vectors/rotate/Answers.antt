use Rattle.std.proofs.Common.{◌≡◌, ◌-◌, ◌%◌, arith, refl}
use Rattle.bv_lanes.proofs.vectors.rotate.Goals as goal

pub returns-clause-rotated : goal.returns-clause-rotated
returns-clause-rotated c j lt =
    let k = c.args.bits in
    let right : k % 32 ≡ k = omega arith in
    let left : (32 - k) % 32 ≡ 32 - k = omega arith in
    rw (c.or.ensures j lt, c.shift_right.ensures.shifted j lt, c.shift_left.ensures j lt, right, left) refl
