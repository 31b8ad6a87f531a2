use Rattle.spec_tree.proofs.SizesLemmas.{need-le}
use Rattle.spec_tree.proofs.laws.a_compact_tree_takes_no_more.Goals as goal

pub returns : goal.returns
returns c = need-le
