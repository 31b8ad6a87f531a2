use Rattle.spec_laws.proofs.SortedLemmas.{same_maps}
use Rattle.spec_laws.proofs.laws.sorted_maps_with_equal_lookups_are_equal.Goals as goal

pub returns : goal.returns
returns c = same_maps
