use Rattle.spec_orderly.proofs.Covered.{no_add_left}
use Rattle.spec_orderly.proofs.laws.no_add_is_left.Goals as goal

pub returns : goal.returns
returns c = no_add_left
