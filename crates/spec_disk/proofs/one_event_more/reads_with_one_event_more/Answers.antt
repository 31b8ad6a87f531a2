-- The last event decides, or leaves it as it was.
use Rattle.std.proofs.Common.{[], ◌∷◌, true, false}
use Rattle.spec_disk.specs.declared.event.Event.TheVariants.{Write, Sync}
use Rattle.spec_disk.proofs.ReadLemmas.{reads_right_from-append}
use Rattle.spec_disk.proofs.one_event_more.reads_with_one_event_more.Goals as goal

pub returns-clause-write : goal.returns-clause-write
returns-clause-write c = λ p at bytes ok b. reads_right_from-append true b p (Write at bytes ok ∷ [])

pub returns-clause-sync : goal.returns-clause-sync
returns-clause-sync c = λ p b. reads_right_from-append true b p (Sync true ∷ [])

pub returns-clause-failed : goal.returns-clause-failed
returns-clause-failed c = λ p b. reads_right_from-append true b p (Sync false ∷ [])
