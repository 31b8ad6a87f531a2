use Rattle.spec_core.proofs.Numbers.{numbers_are_apart}
use Rattle.spec_core.proofs.laws.numbers_of_entries_are_apart.Goals as goal

pub returns : goal.returns
returns c = numbers_are_apart
