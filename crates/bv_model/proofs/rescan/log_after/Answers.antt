use Rattle.std.proofs.Common.{◌∙◌, sym, refl, true, false, arith}
use Rattle.bv_model.proofs.Lengths.{lengths_more}
use Rattle.bv_model.proofs.rescan.log_after.Goals as goal
use Rattle.bv_model.proofs.rescan.log_after.Goals.{then-fails, else-fails}

pub loop-i-preserved : goal.loop-i-preserved
loop-i-preserved c = record {
  follows = λ next legal. elim c.if-fails.branch [
    | then-fails w ↦
        rw (w.failed-is, w.published_by.ensures.value, c.next-lengths.ensures.step, c.standing_for.ensures next legal, c.deed_of-deed.ensures, c.events-events.ensures)
        (lengths_more c.args.h.now.history next c.loop-i.i _ c.loop-i.lengths c.loop-i.failed true legal (omega (arith, c.loop-i-test.true, c.requires)) (rw c.events-events.ensures at (sym c.fails.ensures ∙ w.if-fails.true)) (c.loop-i.invariant.follows next legal))
    | else-fails w ↦
        rw (w.failed-is, c.next-lengths.ensures.step, c.standing_for.ensures next legal, c.deed_of-deed.ensures, c.events-events.ensures)
        (lengths_more c.args.h.now.history next c.loop-i.i _ c.loop-i.lengths c.loop-i.failed false legal (omega (arith, c.loop-i-test.true, c.requires)) (rw c.events-events.ensures at (sym c.fails.ensures ∙ w.if-fails.false)) (c.loop-i.invariant.follows next legal))
  ];
  bound = omega (arith, c.next-lengths.ensures.bound, c.loop-i.invariant.bound);
  failed = elim c.if-fails.branch [
    | then-fails w ↦ omega (arith, w.failed-is, w.published_by.ensures.bound, c.next-lengths.ensures.bound, c.loop-i.invariant.bound)
    | else-fails w ↦ omega (arith, w.failed-is, c.loop-i.invariant.failed)
  ];
  log = refl;
}
