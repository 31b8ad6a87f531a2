use Rattle.spec_image.proofs.MapLemmas.{map_sorted, map_has}
use Rattle.spec_image.proofs.laws.a_map_has_its_blobs_in_order.Goals as goal

pub returns-clause-order : goal.returns-clause-order
returns-clause-order c = map_sorted

pub returns-clause-value : goal.returns-clause-value
returns-clause-value c = map_has
