-- Synced, by its lemmas.
use Rattle.std.proofs.Common.{false, refl}
use Rattle.spec_disk.specs.declared.event.Event.TheVariants.{Write, Sync}
use Rattle.spec_disk.proofs.EventLemmas.{synced_after-push, synced_after-push_sync}
use Rattle.spec_disk.proofs.one_event_more.synced_with_one_event_more.Goals as goal

pub returns-clause-write : goal.returns-clause-write
returns-clause-write c = λ base p at bytes ok. synced_after-push base p (Write at bytes ok) refl

pub returns-clause-sync : goal.returns-clause-sync
returns-clause-sync c = synced_after-push_sync

pub returns-clause-failed : goal.returns-clause-failed
returns-clause-failed c = λ base p. synced_after-push base p (Sync false) refl
