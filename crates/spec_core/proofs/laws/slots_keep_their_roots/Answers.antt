use Rattle.spec_core.proofs.Slots.{slots_stay}
use Rattle.spec_core.proofs.laws.slots_keep_their_roots.Goals as goal

pub returns : goal.returns
returns c = slots_stay
