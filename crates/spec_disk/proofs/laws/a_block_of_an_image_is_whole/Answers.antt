-- Its last sector is full, and there is none behind it.
use Rattle.spec_disk.proofs.BlockLemmas.{image-whole}
use Rattle.spec_disk.proofs.laws.a_block_of_an_image_is_whole.Goals as goal

pub returns : goal.returns
returns c = image-whole
