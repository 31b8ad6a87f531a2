use Rattle.spec_complete.proofs.Mapped.{lines_are_of_map}
use Rattle.spec_complete.proofs.laws.lines_are_of_the_map.Goals as goal

pub returns : goal.returns
returns c = lines_are_of_map
