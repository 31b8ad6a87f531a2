use Rattle.spec_complete.proofs.Holding.{sound_verifies}
use Rattle.spec_complete.proofs.laws.sound_contents_verify.Goals as goal

pub returns : goal.returns
returns c = sound_verifies
