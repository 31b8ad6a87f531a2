use Rattle.spec_core.proofs.Timing.{synced_is_logged}
use Rattle.spec_core.proofs.laws.what_is_synced_was_logged.Goals as goal

pub returns : goal.returns
returns c = synced_is_logged
