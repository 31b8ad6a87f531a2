use Rattle.std.proofs.Common.{◌∙◌, ap, sym, ℕ, arith}
use Rattle.bv_model.proofs.Rescans.{standing_more}
use Rattle.bv_model.specs.Rescan.{state_at, standing_in}
use Rattle.bv_model.proofs.rescan.standing_after.Goals as goal

pub loop-i-preserved : goal.loop-i-preserved
loop-i-preserved c = record {
  standing = λ next legal. rw (c.standing_next-standing.ensures.step, c.closed_root.ensures next legal, c.deed_of-deed.ensures, c.events.ensures, c.loop-i.invariant.standing next legal) (sym (standing_more c.args.h.now.history next c.loop-i.i _ c.args.root legal (omega (arith, c.loop-i-test.true, c.requires))));
  bound = omega (arith, c.standing_next-standing.ensures.bound, c.loop-i.invariant.bound);
}

pub returns : goal.returns
returns c = λ next legal. c.loop-i.invariant.standing next legal ∙ ap (λ (n : ℕ). standing_in (state_at c.args.h.now.history next n) c.args.root) (omega (arith, c.loop-i-test.false, c.loop-i.auto.i-end))
