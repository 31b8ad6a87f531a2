use Rattle.spec_image.proofs.TornLemmas.{no_entries}
use Rattle.spec_image.proofs.laws.an_image_without_entries_is_no_chance.Goals as goal

pub returns : goal.returns
returns c = no_entries
