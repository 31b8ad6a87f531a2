-- The candidates are the same.
use Rattle.spec_disk.proofs.SettledLemmas.{image-from_settled, image-to_settled}
use Rattle.spec_disk.proofs.laws.a_settled_disk_goes_on_as_it_is.Goals as goal

pub returns : goal.returns
returns c = λ base j p q settled. (image-from_settled base j p q settled, image-to_settled base j p q settled)
