-- A quiet block has one candidate in each sector.
use Rattle.spec_disk.proofs.ImageLemmas.{image-quiet}
use Rattle.spec_disk.proofs.laws.an_unwritten_block_is_as_synced.Goals as goal

pub returns : goal.returns
returns c = λ base j p b quiet image. image-quiet base p j b image quiet
