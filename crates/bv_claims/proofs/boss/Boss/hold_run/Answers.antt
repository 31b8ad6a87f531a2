-- One block of the run more.
use Rattle.std.proofs.Common.{◌≡◌, ◌+◌, ◌-◌, ◌++◌, ◌∷◌, [], ℕ, List, ap, sym, ◌∙◌, arith, length, length-append, append_assoc}
use Rattle.bv_claims.specs.Blocks.{times, consecutive}
use Rattle.bv_claims.proofs.Counts.{times-append}
use Rattle.bv_claims.proofs.Runs.{length-consecutive, up_to_more, after_up_to}
use Rattle.bv_claims.proofs.boss.Boss.hold_run.Goals as goal

pub hold_one-requires-clause-idle : goal.hold_one-requires-clause-idle
hold_one-requires-clause-idle c =
    let i = c.loop-block.invariant in let n = c.loop-block.block - c.args.start in
    let old = c.args.self.now.seat.me.0.owned in
    let len = ap length i.owned in let sum = length-append old (consecutive c.args.start n) in
    let run = length-consecutive c.args.start n in let room = i.room in let idle = c.requires.idle in omega arith

pub hold_one-requires-clause-nobodys : goal.hold_one-requires-clause-nobodys
hold_one-requires-clause-nobodys c =
    let i = c.loop-block.invariant in let k = c.loop-block.block in
    let old = c.args.self.now.seat.me.0.owned in
    let run = consecutive c.args.start (k - c.args.start) in
    let same = ap (times k) i.owned ∙ times-append k old run in
    let apart = after_up_to c.args.start k i.range.0 in
    let free = c.requires.nobodys k i.range.0 (omega arith) in omega arith

pub loop-block-preserved : goal.loop-block-preserved
loop-block-preserved c =
    let i = c.loop-block.invariant in let k = c.loop-block.block in
    let old = c.args.self.now.seat.me.0.owned in
    let run = consecutive c.args.start (k - c.args.start) in record {
      range = (omega (arith, i.range.0), omega arith);
      table = c.hold_one.ensures.table;
      owned = c.hold_one.ensures.owned ∙ ap (λ (xs : List ℕ). xs ++ k ∷ []) i.owned ∙ append_assoc old run (k ∷ [])
          ∙ ap (λ (xs : List ℕ). old ++ xs) (sym (up_to_more c.args.start k i.range.0));
      room = let r = i.room in let s = c.hold_one.ensures.room in let low = i.range.0 in omega arith;
    }
