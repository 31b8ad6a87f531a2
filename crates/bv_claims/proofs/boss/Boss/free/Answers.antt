use Rattle.std.proofs.Common.{◌≡◌, ◌<◌, ap, arith, get_or, take}
use Rattle.std.proofs.lemmas.List.{take_all}
use Rattle.bv_claims.specs.Blocks.{times}
use Rattle.bv_claims.proofs.Counts.{times-append, times-without, times_same}
use Rattle.bv_claims.proofs.Bosses.{times-take, times-take-more}
use Rattle.bv_claims.proofs.boss.Boss.free.Goals as goal

pub free_one-requires-clause-owned : goal.free_one-requires-clause-owned
free_one-requires-clause-owned c =
    let xs = c.args.blocks.now in let i = c.loop-block.block-index in let b = get_or xs i 0 in
    let t = times-take xs i (omega arith) b in let one = times_same b in
    let part = c.requires.owned b in let now = c.loop-block.invariant.owned b in omega arith

pub loop-block-preserved : goal.loop-block-preserved
loop-block-preserved c =
    let xs = c.args.blocks.now in let i = c.loop-block.block-index in let x = get_or xs i 0 in
    let had = c.loop-block.self.seat.me.0.owned in
    let t = times-take xs i (omega arith) x in let one = times_same x in
    let part = c.requires.owned x in let now = c.loop-block.invariant.owned x in
    let some_x : 0 < times x had = omega arith in record {
      table = c.free_one.ensures.table;
      owned = λ b. let o = c.loop-block.invariant.owned b in let w = times-without b x had some_x in
          let n = ap (times b) c.free_one.ensures.owned in let m = times-take-more xs i (omega arith) b in omega arith;
      room = let r = c.loop-block.invariant.room in let s = c.free_one.ensures.room in omega arith;
    }

pub returns-clause-owned : goal.returns-clause-owned
returns-clause-owned c = λ b.
    let xs = c.args.blocks.now in let o = c.loop-block.invariant.owned b in
    let t = times-append b c.loop-block.self.seat.me.0.owned xs in
    let all : take c.loop-block.block-index xs ≡ xs = take_all c.loop-block.block-index xs (omega arith) in
    let e = ap (times b) all in omega arith
