-- All other sectors are the same either way.
use Rattle.spec_disk.proofs.BlockLemmas.{image-one_sector}
use Rattle.spec_disk.proofs.laws.a_write_of_one_sector_is_done_or_not.Goals as goal

pub returns : goal.returns
returns c = λ base j p b t bytes once same image. image-one_sector base p j b t bytes once same image
