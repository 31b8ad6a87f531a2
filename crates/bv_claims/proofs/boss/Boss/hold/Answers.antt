use Rattle.std.proofs.Common.{ap, ◌∙◌, arith, get_or, take}
use Rattle.bv_claims.specs.Blocks.{times}
use Rattle.bv_claims.proofs.Counts.{times-append, times_same}
use Rattle.bv_claims.proofs.Bosses.{times-take}
use Rattle.bv_claims.proofs.boss.Boss.hold.Goals as goal

pub hold_one-requires-clause-block : goal.hold_one-requires-clause-block
hold_one-requires-clause-block c =
    let xs = c.args.blocks.now in let i = c.loop-block.block-index in let b = get_or xs i 0 in
    let t = times-take xs i (omega arith) b in let one = times_same b in
    let k = c.requires.blocks b (omega arith) in (k.0, k.1)

pub hold_one-requires-clause-nobodys : goal.hold_one-requires-clause-nobodys
hold_one-requires-clause-nobodys c =
    let xs = c.args.blocks.now in let i = c.loop-block.block-index in let b = get_or xs i 0 in
    let old = c.args.self.now.seat.me.0.owned in
    let t = times-take xs i (omega arith) b in let one = times_same b in
    let k = c.requires.blocks b (omega arith) in
    let once = k.2 in let sum = times-append b old xs in
    let now = ap (times b) c.loop-block.invariant.owned ∙ times-append b old (take i xs) in omega arith
