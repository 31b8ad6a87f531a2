use Rattle.bv_mounted.proofs.OpensLemmas.{survives_from_its_image}
use Rattle.bv_mounted.proofs.laws.a_mounted_volume_survives_from_its_image.Goals as goal

pub returns : goal.returns
returns c = survives_from_its_image
