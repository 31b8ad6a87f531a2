use Rattle.spec_exhibit.proofs.CollisionLemmas.{root-unlike}
use Rattle.spec_exhibit.proofs.laws.trees_that_collide_nowhere_have_unlike_roots.Goals as goal

pub returns : goal.returns
returns c = root-unlike
