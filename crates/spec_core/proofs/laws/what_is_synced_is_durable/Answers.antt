use Rattle.spec_core.proofs.Durable.{synced_is_durable}
use Rattle.spec_core.proofs.laws.what_is_synced_is_durable.Goals as goal

pub returns : goal.returns
returns c = synced_is_durable
