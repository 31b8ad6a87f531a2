use Rattle.spec_tree.proofs.TreeLemmas.{length-level_above}
use Rattle.spec_tree.proofs.laws.a_level_above_has_one_digest_for_256.Goals as goal

pub returns : goal.returns
returns c = length-level_above
