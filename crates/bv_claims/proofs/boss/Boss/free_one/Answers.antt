use Rattle.std.proofs.Common.{◌≡◌, ◌≤◌, ℕ, ap, ◌∙◌, arith, length}
use Rattle.bv_claims.specs.Blocks.{times, without}
use Rattle.bv_claims.proofs.Counts.{times-without, length-without}
use Rattle.bv_claims.proofs.boss.Boss.free_one.Goals as goal

pub returns-clause-table : goal.returns-clause-table
returns-clause-table c =
    let old = c.requires.table in
    let b = c.args.block in
    let xs = c.args.self.now.seat.me.0.owned in
    let owned : c.free_mark.new.boss.me.0.owned ≡ without b xs = ap (λ m. m.0.owned) c.free_mark.ensures.freed in
    let less : (k : ℕ) → times k c.free_mark.new.boss.me.0.owned ≤ times k xs = λ k. let t = times-without k b xs c.requires.owned in let o = ap (times k) owned in omega arith in
    let len = length-without b xs c.requires.owned in let len' = ap length owned in record {
      table = c.free_mark.ensures.table ∙ old.table;
      blocks = ap (λ m. m.0.blocks) c.free_mark.ensures.freed ∙ old.blocks;
      within = λ k some_k. old.within k (let l = less k in omega arith);
      once = λ k. let l = less k in let o = old.once k in omega arith;
      accounted = let a = old.accounted in omega arith;
    }
