use Rattle.spec_exhibit.proofs.ExampleLemmas.{two_bytes-not, two_roots-unlike}
use Rattle.spec_exhibit.proofs.laws.the_trees_of_two_bytes_collide_nowhere.Goals as goal

pub returns : goal.returns
returns c = record { nowhere = two_bytes-not; unlike = two_roots-unlike }
