use Rattle.std.proofs.Common.{arith}
use Rattle.bv_model.proofs.Knowing.{knows_more}
use Rattle.bv_model.proofs.room.known_after.Goals as goal

pub loop-i-preserved : goal.loop-i-preserved
loop-i-preserved c = λ next legal.
    rw (c.known_next-known.ensures, c.adding_of.ensures, c.events.ensures, c.setting-version.ensures)
    (knows_more c.args.h.now.history next c.loop-i.i _ c.args.root c.loop-i.known legal (omega (arith, c.loop-i-test.true, c.requires)) (c.loop-i.invariant next legal))
