use Rattle.bv_mounted.proofs.SafeLemmas.{kept_theorem}
use Rattle.bv_mounted.proofs.laws.a_kept_volume_keeps_the_theorem_of_stops.Goals as goal

pub returns : goal.returns
returns c = kept_theorem
