use Rattle.std.proofs.Common.{◌≡◌, ◌≤◌, ℕ, ap, ◌∙◌, arith, inl, inr}
use Rattle.bv_claims.specs.Blocks.{times}
use Rattle.bv_claims.proofs.Counts.{times-append}
use Rattle.bv_claims.proofs.Bosses.{rises_of}
use Rattle.bv_claims.proofs.boss.Boss.take.Goals as goal

pub returns-clause-rising : goal.returns-clause-rising
returns-clause-rising c =
    let d = c.complete.ensures.completed in
    let size : c.complete.new.boss.me.0.blocks ≡ c.args.claims.now.blocks = d.same.1 ∙ c.requires.table.0.blocks in
    let part : (b : ℕ) → times b c.sorted.result.items ≤ times b c.complete.new.boss.me.0.owned = λ b.
    let s = c.sorted.ensures.same b in let o = ap (times b) d.owned ∙ times-append b c.args.self.now.seat.me.0.owned c.complete.new.tally.gained.items in omega arith in
    rises_of 1 c.args.claims.now.blocks c.sorted.result.items c.sorted.ensures.sorted
    (λ b. let p = part b in let o = d.once b in omega arith)
    (λ b low. let p = part b in let z = d.within b (inl (omega arith)) in omega arith)
    (λ b far. let p = part b in let z = d.within b (inr (omega arith)) in omega arith)

pub returns-clause-owned : goal.returns-clause-owned
returns-clause-owned c = λ b.
    let d = c.complete.ensures.completed in
    let old = c.args.self.now.seat.me.0.owned in
    let s = c.sorted.ensures.same b in
    let o = ap (times b) d.owned ∙ times-append b old c.complete.new.tally.gained.items in
    let t = times-append b old c.sorted.result.items in omega arith
