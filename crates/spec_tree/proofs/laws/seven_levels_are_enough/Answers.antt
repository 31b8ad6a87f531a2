use Rattle.spec_tree.proofs.SizesLemmas.{levels_of-few}
use Rattle.spec_tree.proofs.laws.seven_levels_are_enough.Goals as goal

pub returns : goal.returns
returns c = levels_of-few
