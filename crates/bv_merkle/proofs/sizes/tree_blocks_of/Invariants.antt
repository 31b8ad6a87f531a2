use Rattle.bv_merkle.proofs.SizesLemmas.{Counted}
use Rattle.bv_merkle.proofs.sizes.tree_blocks_of.Given as goal

abbrev pub invariant-loop-digests : goal.invariant-loop-digests
invariant-loop-digests l = Counted l.fn.size l.digests l.held l.blocks

abbrev pub decreases-loop-digests : goal.decreases-loop-digests
decreases-loop-digests l = l.digests
