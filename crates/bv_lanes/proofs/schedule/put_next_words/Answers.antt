use Rattle.std.proofs.Common.{◌+◌, arith}
use Rattle.bv_lanes.proofs.LaneLemmas.{IsWindow_at}
use Rattle.bv_lanes.proofs.schedule.put_next_words.Goals as goal

pub returns : goal.returns
returns c j lt piece t low high at window =
    let w1 = c.put_next_four.ensures j lt piece t low (omega arith) at window in
    let w2 = c.put_next_four-2.ensures j lt piece (t + 4) (omega arith) (omega arith) (omega arith) w1 in
    let w3 = c.put_next_four-3.ensures j lt piece (t + 4 + 4) (omega arith) (omega arith) (omega arith) w2 in
    let w4 = c.put_next_four-4.ensures j lt piece (t + 4 + 4 + 4) (omega arith) (omega arith) (omega arith) w3 in
    IsWindow_at piece _ _ _ (omega arith) w4
