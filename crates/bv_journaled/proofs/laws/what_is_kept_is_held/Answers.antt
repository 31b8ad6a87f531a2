use Rattle.bv_journaled.specs.Held.{kept_held}
use Rattle.bv_journaled.proofs.laws.what_is_kept_is_held.Goals as goal

pub returns : goal.returns
returns c = kept_held
