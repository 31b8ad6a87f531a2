use Rattle.spec_tree.proofs.TreeLemmas.{level_of-top}
use Rattle.spec_tree.proofs.laws.the_highest_level_is_the_root.Goals as goal

pub returns : goal.returns
returns c = level_of-top
