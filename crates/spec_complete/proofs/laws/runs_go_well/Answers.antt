use Rattle.spec_complete.proofs.Results.{runs_go_well}
use Rattle.spec_complete.proofs.laws.runs_go_well.Goals as goal

pub returns : goal.returns
returns c = runs_go_well
