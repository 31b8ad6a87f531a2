use Rattle.spec_complete.proofs.Moving.{moments_hold}
use Rattle.spec_complete.proofs.laws.moments_hold_theirs.Goals as goal

pub returns : goal.returns
returns c = moments_hold
