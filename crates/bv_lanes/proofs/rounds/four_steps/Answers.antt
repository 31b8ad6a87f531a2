use Rattle.std.proofs.Common.{◌+◌, ◌*◌, arith}
use Rattle.bv_lanes.proofs.LaneLemmas.{rounds_at}
use Rattle.bv_lanes.proofs.rounds.four_steps.Goals as goal

pub returns : goal.returns
returns c j lt piece h window before =
    let start = 16 * c.args.turn in
    let place = c.args.place in
    let first = c.step-v.ensures j lt piece h window before in
    let v1 = rounds_at piece h _ (start + place + 1) (start + (place + 1)) (omega arith) first in
    let second = c.step-v-2.ensures j lt piece h window v1 in
    let v2 = rounds_at piece h _ (start + (place + 1) + 1) (start + (place + 2)) (omega arith) second in
    let third = c.step-v-3.ensures j lt piece h window v2 in
    let v3 = rounds_at piece h _ (start + (place + 2) + 1) (start + (place + 3)) (omega arith) third in
    let fourth = c.step.ensures j lt piece h window v3 in
    rounds_at piece h _ (start + (place + 3) + 1) (start + place + 4) (omega arith) fourth
