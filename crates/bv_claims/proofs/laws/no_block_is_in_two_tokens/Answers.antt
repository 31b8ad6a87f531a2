use Rattle.std.proofs.Common.{◌≡◌, ◌≢◌, ◌≤◌, ◌+◌, arith, inl, inr}
use mathlib.Core.Logic.{dite}
use native.Mathlib.Decide.{ℕ_discrete, dec_lt}
use Rattle.bv_claims.specs.Blocks.{times}
use Rattle.bv_claims.specs.Rule.{owns, total}
use Rattle.bv_claims.proofs.Counts.{total-two}
use Rattle.bv_claims.proofs.Marks.{mark-le-1}
use Rattle.bv_claims.proofs.laws.no_block_is_in_two_tokens.Goals as goal

pub returns : goal.returns
returns c = λ blocks s h i j v w other at at' b some_b.
    let two : times b v.owned + times b w.owned ≤ total (owns b) s.views = total-two (owns b) s.views i j v w other at at' in
    let one = mark-le-1 s.words b in
    dite (ℕ_discrete b 0)
    (λ (e : b ≡ 0). let z = h.within b (inl e) in absurd (omega arith))
    (λ (n : b ≢ 0). elim (dec_lt b blocks) [
      | yes high ↦ (let m = h.marked b (omega arith) high in (omega arith, omega arith))
      | no far ↦ (let z = h.within b (inr (omega arith)) in absurd (omega arith))
    ])
