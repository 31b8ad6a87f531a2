-- The synced part, by its lemmas.
use Rattle.spec_disk.proofs.EventLemmas.{synced-append-unsynced}
use Rattle.spec_disk.proofs.SyncedLemmas.{IsSyncedPart-synced_part, IsSyncedPart-only}
use Rattle.spec_disk.proofs.laws.synced_part_is_the_longest.Goals as goal

pub returns-clause-is : goal.returns-clause-is
returns-clause-is c = IsSyncedPart-synced_part

pub returns-clause-only : goal.returns-clause-only
returns-clause-only c = IsSyncedPart-only

pub returns-clause-rest : goal.returns-clause-rest
returns-clause-rest c = synced-append-unsynced
