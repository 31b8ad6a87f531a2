use Rattle.std.proofs.Common.{refl}
use Rattle.spec_exhibit.proofs.laws.a_tree_collides_nowhere_with_itself.Goals as goal

pub returns : goal.returns
returns c = λ blob found. found.1.1.messages.unlike refl
