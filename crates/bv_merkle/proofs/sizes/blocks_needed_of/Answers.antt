use Rattle.std.proofs.Common.{arith}
use Rattle.spec_tree.specs.Tree.{need_of}
use Rattle.spec_tree.proofs.SizesLemmas.{tree-small}
use Rattle.bv_merkle.proofs.sizes.blocks_needed_of.Goals as goal

pub overflow_add-result : goal.overflow_add-result
overflow_add-result c = omega (arith, c.div_ceil.ensures, c.tree_blocks_of.ensures, tree-small c.args.version c.args.size)

pub returns : goal.returns
unfolding need_of
returns c = omega (arith, c.div_ceil.ensures, c.tree_blocks_of.ensures)
