use Rattle.std.proofs.Common.{◌∙◌, ap, sym, refl, ℕ, arith}
use Rattle.bv_model.proofs.Rescans.{held_more}
use Rattle.bv_model.specs.Rescan.{state_at}
use Rattle.spec_core.specs.State.{held}
use Rattle.bv_model.proofs.rescan.held_after.Goals as goal

pub loop-i-init : goal.loop-i-init
loop-i-init c = λ next legal. refl

pub loop-i-preserved : goal.loop-i-preserved
loop-i-preserved c = λ next legal. rw (c.held_next-held.ensures, c.deed_of.ensures, c.events-events.ensures, c.loop-i.invariant next legal) (sym (held_more c.args.h.now.history next c.loop-i.i _ c.args.place legal (omega (arith, c.loop-i-test.true, c.requires))))

pub returns : goal.returns
returns c = λ next legal. c.loop-i.invariant next legal ∙ ap (λ (n : ℕ). held (state_at c.args.h.now.history next n).slots c.args.place) (omega (arith, c.loop-i-test.false, c.loop-i.auto.i-end))
