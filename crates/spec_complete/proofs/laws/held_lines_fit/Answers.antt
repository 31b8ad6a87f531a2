use Rattle.spec_complete.proofs.Holding.{held_lines_fit}
use Rattle.spec_complete.proofs.laws.held_lines_fit.Goals as goal

pub returns : goal.returns
returns c = held_lines_fit
