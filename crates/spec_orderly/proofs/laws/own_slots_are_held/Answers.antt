use Rattle.spec_orderly.proofs.Shown.{shown_last}
use Rattle.spec_orderly.proofs.laws.own_slots_are_held.Goals as goal

pub returns : goal.returns
returns c = shown_last
