-- The last event is applied to what the others make of the base.
use Rattle.std.proofs.Common.{[], ◌∷◌, true, false}
use Rattle.spec_disk.specs.declared.event.Event.TheVariants.{Write, Sync}
use Rattle.spec_disk.proofs.EventLemmas.{now_after-append}
use Rattle.spec_disk.proofs.one_event_more.now_with_one_event_more.Goals as goal

pub returns-clause-write : goal.returns-clause-write
returns-clause-write c = λ base p at bytes. now_after-append base p (Write at bytes true ∷ [])

pub returns-clause-failed : goal.returns-clause-failed
returns-clause-failed c = λ base p at bytes. now_after-append base p (Write at bytes false ∷ [])

pub returns-clause-sync : goal.returns-clause-sync
returns-clause-sync c = λ base p ok. now_after-append base p (Sync ok ∷ [])
