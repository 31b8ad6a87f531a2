-- The last event is applied to what the others make of the base.
use Rattle.std.proofs.Common.{[], ◌∷◌}
use Rattle.spec_disk.specs.declared.event.Event.TheVariants.{Write, Sync}
use Rattle.spec_disk.proofs.EventLemmas.{last_after-append}
use Rattle.spec_disk.proofs.one_event_more.last_with_one_event_more.Goals as goal

pub returns-clause-write : goal.returns-clause-write
returns-clause-write c = λ base p at bytes ok. last_after-append base p (Write at bytes ok ∷ [])

pub returns-clause-sync : goal.returns-clause-sync
returns-clause-sync c = λ base p ok. last_after-append base p (Sync ok ∷ [])
