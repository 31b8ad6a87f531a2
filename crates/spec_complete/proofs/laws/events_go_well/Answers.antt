use Rattle.spec_complete.proofs.Going.{events_go_well}
use Rattle.spec_complete.proofs.laws.events_go_well.Goals as goal

pub returns : goal.returns
returns c = events_go_well
