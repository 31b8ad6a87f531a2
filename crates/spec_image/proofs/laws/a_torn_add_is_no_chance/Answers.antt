use Rattle.spec_image.proofs.TornLemmas.{torn_add}
use Rattle.spec_image.proofs.laws.a_torn_add_is_no_chance.Goals as goal

pub returns : goal.returns
returns c = torn_add
