-- Synced and Now, by their lemmas.
use Rattle.spec_disk.proofs.ImageLemmas.{image-now, image-synced}
use Rattle.spec_disk.proofs.laws.synced_and_now_are_images.Goals as goal

pub returns-clause-synced : goal.returns-clause-synced
returns-clause-synced c = image-synced

pub returns-clause-now : goal.returns-clause-now
returns-clause-now c = image-now
