use Rattle.spec_orderly.proofs.Held.{held_last}
use Rattle.spec_orderly.proofs.laws.slots_hold_what_their_sessions_opened.Goals as goal

pub returns : goal.returns
returns c = held_last
