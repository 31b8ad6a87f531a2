use Rattle.bv_merkle.proofs.SizesLemmas.{Reached}
use Rattle.bv_merkle.proofs.sizes.levels.Given as goal

abbrev pub invariant-loop-digests : goal.invariant-loop-digests
invariant-loop-digests l = Reached l.fn.size l.levels l.digests

abbrev pub decreases-loop-digests : goal.decreases-loop-digests
decreases-loop-digests l = l.digests
