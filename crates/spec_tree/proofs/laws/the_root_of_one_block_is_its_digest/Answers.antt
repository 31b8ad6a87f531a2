use Rattle.spec_tree.proofs.TreeLemmas.{root_of-small}
use Rattle.spec_tree.proofs.laws.the_root_of_one_block_is_its_digest.Goals as goal

pub returns : goal.returns
returns c = root_of-small
