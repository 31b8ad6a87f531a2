use Rattle.spec_core.proofs.Leaving.{leaving_roots_are_held}
use Rattle.spec_core.proofs.laws.leaving_roots_are_held.Goals as goal

pub returns : goal.returns
returns c = leaving_roots_are_held
