use Rattle.spec_core.proofs.Once.{unlinked_roots_stay}
use Rattle.spec_core.proofs.laws.unlinked_roots_stay_in_the_map.Goals as goal

pub returns : goal.returns
returns c = unlinked_roots_stay
