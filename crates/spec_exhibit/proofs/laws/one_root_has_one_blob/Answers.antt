use Rattle.spec_exhibit.proofs.CollisionLemmas.{root-same}
use Rattle.spec_exhibit.proofs.laws.one_root_has_one_blob.Goals as goal

pub returns : goal.returns
returns c = root-same
