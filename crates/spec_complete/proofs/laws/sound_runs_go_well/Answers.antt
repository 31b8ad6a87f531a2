use Rattle.spec_complete.proofs.Ending.{sound_runs_go_well}
use Rattle.spec_complete.proofs.laws.sound_runs_go_well.Goals as goal

pub returns : goal.returns
returns c = sound_runs_go_well
