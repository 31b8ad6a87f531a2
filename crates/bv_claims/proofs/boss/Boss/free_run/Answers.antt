-- One block of the run less.
use Rattle.std.proofs.Common.{◌≡◌, ◌<◌, ◌-◌, ◌^◌, ◌∷◌, [], ℕ, ap, ◌∙◌, arith}
use Rattle.bv_claims.specs.Blocks.{times, consecutive}
use Rattle.bv_claims.proofs.Counts.{times-append, times-without}
use Rattle.bv_claims.proofs.Marks.{in_consecutive}
use Rattle.bv_claims.proofs.Runs.{up_to_more, after_up_to, run_ends}
use Rattle.bv_claims.proofs.boss.Boss.free_run.Goals as goal

pub overflow_add-block-end : goal.overflow_add-block-end
overflow_add-block-end c =
    let t = c.args.claims.now in
    let ends = run_ends c.args.start c.args.len t.blocks (2 ^ 64) (omega arith) (omega (arith, t.range))
    (λ b some_b. (c.requires.table.within b (let p = c.requires.owned b in omega arith)).1) in
    omega arith

pub free_one-requires-clause-owned : goal.free_one-requires-clause-owned
free_one-requires-clause-owned c =
    let i = c.loop-block.invariant in let k = c.loop-block.block in
    let whole = in_consecutive k c.args.start c.args.len i.range.0 (omega arith) in
    let part = c.requires.owned k in let now = i.owned k in
    let apart = after_up_to c.args.start k i.range.0 in omega arith

pub loop-block-preserved : goal.loop-block-preserved
loop-block-preserved c =
    let i = c.loop-block.invariant in let k = c.loop-block.block in
    let had = c.loop-block.self.seat.me.0.owned in
    let whole = in_consecutive k c.args.start c.args.len i.range.0 (omega arith) in
    let part = c.requires.owned k in let now = i.owned k in
    let apart = after_up_to c.args.start k i.range.0 in
    let some_k : 0 < times k had = omega arith in record {
      range = (omega (arith, i.range.0), omega arith);
      table = c.free_one.ensures.table;
      owned = λ b. let o = i.owned b in let w = times-without b k had some_k in
          let n = ap (times b) c.free_one.ensures.owned in
          let m = ap (times b) (up_to_more c.args.start k i.range.0) ∙ times-append b (consecutive c.args.start (k - c.args.start)) (k ∷ []) in omega arith;
      room = let r = i.room in let s = c.free_one.ensures.room in let low = i.range.0 in omega arith;
    }

pub returns-clause-owned : goal.returns-clause-owned
returns-clause-owned c = λ b.
    let o = c.loop-block.invariant.owned b in let k = c.loop-block.block in
    let e : k - c.args.start ≡ c.args.len = omega (arith, c.loop-block.invariant.range) in
    let same = ap (λ (n : ℕ). times b (consecutive c.args.start n)) e in
    let t = times-append b c.loop-block.self.seat.me.0.owned (consecutive c.args.start c.args.len) in omega arith
