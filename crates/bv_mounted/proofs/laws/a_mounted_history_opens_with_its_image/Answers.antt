use Rattle.bv_mounted.proofs.OpensLemmas.{opens_with_its_image}
use Rattle.bv_mounted.proofs.laws.a_mounted_history_opens_with_its_image.Goals as goal

pub returns : goal.returns
returns c = opens_with_its_image
