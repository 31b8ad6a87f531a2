use Rattle.spec_core.proofs.Once.{queue_is_purged}
use Rattle.spec_core.proofs.laws.each_queued_root_is_purged.Goals as goal

pub returns : goal.returns
returns c = queue_is_purged
