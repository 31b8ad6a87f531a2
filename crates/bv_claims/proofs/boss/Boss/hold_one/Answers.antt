use Rattle.std.proofs.Common.{◌≡◌, ◌≢◌, ◌<◌, ◌≤◌, ◌+◌, ◌++◌, ◌∷◌, [], ℕ, ap, sym, subst, ◌∙◌, arith, length, length-append}
use mathlib.Core.Logic.{dite}
use native.Mathlib.Decide.{ℕ_discrete}
use Rattle.bv_claims.specs.Blocks.{times}
use Rattle.bv_claims.proofs.Counts.{times-append, times_same, times_other}
use Rattle.bv_claims.proofs.boss.Boss.hold_one.Goals as goal

pub returns-clause-table : goal.returns-clause-table
returns-clause-table c =
    let old = c.requires.table in
    let b = c.args.block in
    let xs = c.args.self.now.seat.me.0.owned in
    let owned : c.hold_mark.new.boss.me.0.owned ≡ xs ++ b ∷ [] = ap (λ m. m.0.owned) c.hold_mark.ensures.held in
    let more : (k : ℕ) → times k c.hold_mark.new.boss.me.0.owned ≡ times k xs + times k (b ∷ []) = λ k. ap (times k) owned ∙ times-append k xs (b ∷ []) in
    let len = length-append xs (b ∷ []) in let len' = ap length owned in
    let one = times_same b in
    let none = c.requires.nobodys in record {
      table = c.hold_mark.ensures.table ∙ old.table;
      blocks = ap (λ m. m.0.blocks) c.hold_mark.ensures.held ∙ old.blocks;
      within = λ k some_k. dite (ℕ_discrete k b)
          (λ (e : k ≡ b). subst (λ (z : ℕ). (1 ≤ z) × (z < c.args.claims.now.blocks)) (sym e) c.requires.block)
          (λ (n : k ≢ b). old.within k (let m = more k in let o = times_other k b n in omega arith));
      once = λ k. dite (ℕ_discrete k b)
          (λ (e : k ≡ b). subst (λ (z : ℕ). times z c.hold_mark.new.boss.me.0.owned ≤ 1) (sym e) (let m = more b in omega arith))
          (λ (n : k ≢ b). let m = more k in let o = times_other k b n in let l = old.once k in omega arith);
      accounted = let a = old.accounted in let r = c.hold_mark.ensures.room in let i = c.requires.idle in omega arith;
    }
