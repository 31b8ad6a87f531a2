use Rattle.spec_image.proofs.SoundLemmas.{sound_whole}
use Rattle.spec_image.proofs.laws.a_sound_blob_is_whole.Goals as goal

pub returns : goal.returns
returns c = sound_whole
