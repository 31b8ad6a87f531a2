use Rattle.std.proofs.Common.{sym, arith}
use Rattle.bv_merkle.proofs.SizesLemmas.{reached-zero, reached-more, reached-top, reached-few}
use Rattle.bv_merkle.proofs.sizes.levels.Goals as goal

pub loop-digests-init : goal.loop-digests-init
loop-digests-init c = reached-zero _ _ (omega arith)

pub overflow_add-levels : goal.overflow_add-levels
overflow_add-levels c = omega (arith, reached-few _ _ _ c.ranges.size.fits c.loop-digests.invariant)

pub loop-digests-preserved : goal.loop-digests-preserved
loop-digests-preserved c =
    reached-more _ _ _ _ c.loop-digests.invariant c.loop-digests-test.true c.div_ceil-digests.ensures

pub returns-clause-levels : goal.returns-clause-levels
returns-clause-levels c = sym (reached-top _ _ _ c.loop-digests.invariant c.loop-digests-test.false)

pub returns-clause-few : goal.returns-clause-few
returns-clause-few c = reached-few _ _ _ c.ranges.size.fits c.loop-digests.invariant
