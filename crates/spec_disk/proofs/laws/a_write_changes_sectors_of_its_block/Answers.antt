-- One write more, by its lemmas.
use Rattle.std.proofs.Common.{refl}
use Rattle.spec_disk.specs.declared.event.Event.TheVariants.{Write}
use Rattle.spec_disk.proofs.ImageLemmas.{IsImageWith-from, IsImageWith-to, image-put_back, image-push}
use Rattle.spec_disk.proofs.laws.a_write_changes_sectors_of_its_block.Goals as goal

pub returns-clause-sectors : goal.returns-clause-sectors
returns-clause-sectors c = λ base j p at bytes ok. (IsImageWith-from base p at bytes ok j, IsImageWith-to base p at bytes ok j)

pub returns-clause-block : goal.returns-clause-block
returns-clause-block c = image-put_back

pub returns-clause-stays : goal.returns-clause-stays
returns-clause-stays c = λ base j p at bytes ok. image-push base p (Write at bytes ok) j refl
