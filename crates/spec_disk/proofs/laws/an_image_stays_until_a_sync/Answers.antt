-- The candidates only grow.
use Rattle.spec_disk.proofs.SettledLemmas.{image-stays}
use Rattle.spec_disk.proofs.laws.an_image_stays_until_a_sync.Goals as goal

pub returns : goal.returns
returns c = λ base j p q none image. image-stays base j p q none image
