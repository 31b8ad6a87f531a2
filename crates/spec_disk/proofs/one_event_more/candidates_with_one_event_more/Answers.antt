-- The candidates, by their lemmas.
use Rattle.spec_disk.proofs.EventLemmas.{candidates-push_write, candidates-push_sync, candidates-push_failed_sync}
use Rattle.spec_disk.proofs.one_event_more.candidates_with_one_event_more.Goals as goal

pub returns-clause-write : goal.returns-clause-write
returns-clause-write c = candidates-push_write

pub returns-clause-sync : goal.returns-clause-sync
returns-clause-sync c = candidates-push_sync

pub returns-clause-failed : goal.returns-clause-failed
returns-clause-failed c = candidates-push_failed_sync
