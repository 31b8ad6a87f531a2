-- The sector that was written is the first candidate.
use Rattle.std.proofs.Common.{refl}
use Rattle.spec_disk.specs.declared.event.Event.TheVariants.{Write}
use Rattle.spec_disk.specs.Disk.{block, synced_after}
use Rattle.spec_disk.proofs.BlockLemmas.{image-same_write}
use Rattle.spec_disk.proofs.ImageLemmas.{image-push}
use Rattle.spec_disk.proofs.laws.a_write_of_what_is_synced_changes_nothing.Goals as goal

pub returns : goal.returns
returns c = λ base j p at ok. (image-same_write base p j at ok, image-push base p (Write at (block (synced_after base p) at) ok) j refl)
