use Rattle.spec_core.proofs.Holding.{held_roots_stay}
use Rattle.spec_core.proofs.laws.held_roots_stay_in_the_map.Goals as goal

pub returns : goal.returns
returns c = held_roots_stay
