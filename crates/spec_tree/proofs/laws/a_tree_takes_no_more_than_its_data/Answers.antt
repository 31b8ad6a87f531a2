use Rattle.spec_tree.proofs.SizesLemmas.{need-small}
use Rattle.spec_tree.proofs.laws.a_tree_takes_no_more_than_its_data.Goals as goal

pub returns : goal.returns
returns c = need-small
