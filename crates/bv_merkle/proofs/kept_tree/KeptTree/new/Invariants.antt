use Rattle.std.proofs.Common.{length, map}
use Rattle.bv_merkle.proofs.TreeShapeLemmas.{Growing}
use Rattle.bv_merkle.proofs.kept_tree.KeptTree.new.Given as goal

abbrev pub invariant-loop-digests : goal.invariant-loop-digests
invariant-loop-digests l = Growing l.fn.size l.digests (map (λ v. length v.items) l.levels.items)

abbrev pub decreases-loop-digests : goal.decreases-loop-digests
decreases-loop-digests l = l.digests
