use Rattle.spec_tree.proofs.TreeLemmas.{level_of-below}
use Rattle.spec_tree.proofs.laws.each_level_below_has_more_digests_than_one.Goals as goal

pub returns : goal.returns
returns c = level_of-below
