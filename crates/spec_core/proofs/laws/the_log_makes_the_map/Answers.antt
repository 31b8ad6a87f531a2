use Rattle.spec_core.proofs.Logs.{log_makes_map}
use Rattle.spec_core.proofs.laws.the_log_makes_the_map.Goals as goal

pub returns : goal.returns
returns c = log_makes_map
