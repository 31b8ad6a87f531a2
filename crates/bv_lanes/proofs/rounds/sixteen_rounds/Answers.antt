use Rattle.std.proofs.Common.{◌+◌, ◌*◌, arith}
use Rattle.bv_lanes.proofs.LaneLemmas.{rounds_at}
use Rattle.bv_lanes.proofs.rounds.sixteen_rounds.Goals as goal

pub returns : goal.returns
returns c j lt piece h window before =
    let start = 16 * c.args.turn in
    let first = c.four_steps-v.ensures j lt piece h window before in
    let v1 = rounds_at piece h _ (start + 0 + 4) (start + 4) (omega arith) first in
    let second = c.four_steps-v-2.ensures j lt piece h window v1 in
    let v2 = rounds_at piece h _ (start + 4 + 4) (start + 8) (omega arith) second in
    let third = c.four_steps-v-3.ensures j lt piece h window v2 in
    let v3 = rounds_at piece h _ (start + 8 + 4) (start + 12) (omega arith) third in
    let fourth = c.four_steps.ensures j lt piece h window v3 in
    rounds_at piece h _ (start + 12 + 4) (start + 0 + 16) (omega arith) fourth
