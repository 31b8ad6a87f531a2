use Rattle.spec_seen.proofs.WhereLemmas.{known_by_then}
use Rattle.spec_seen.proofs.laws.blocks_are_known_by_then.Goals as goal

pub returns : goal.returns
returns c = known_by_then
