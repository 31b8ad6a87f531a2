use Rattle.spec_complete.proofs.Stopping.{nothing_stops}
use Rattle.spec_complete.proofs.laws.nothing_stops.Goals as goal

pub returns : goal.returns
returns c = nothing_stops
