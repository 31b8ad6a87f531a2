-- What is pending, by its lemmas.
use Rattle.std.proofs.Common.{refl}
use Rattle.spec_disk.specs.declared.event.Event.TheVariants.{Write}
use Rattle.spec_disk.proofs.EventLemmas.{pending-push, pending-push_sync, pending-push_failed_sync}
use Rattle.spec_disk.proofs.one_event_more.pending_with_one_event_more.Goals as goal

pub returns-clause-write : goal.returns-clause-write
returns-clause-write c = λ p at bytes ok b. pending-push p (Write at bytes ok) b refl

pub returns-clause-sync : goal.returns-clause-sync
returns-clause-sync c = pending-push_sync

pub returns-clause-failed : goal.returns-clause-failed
returns-clause-failed c = pending-push_failed_sync
