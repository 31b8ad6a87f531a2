-- The changes so far are none.
use Rattle.spec_crash.proofs.CrashLemmas.{HoldsWhole-empty}
use Rattle.spec_crash.proofs.laws.an_empty_log_keeps_the_opening_map.Goals as goal

pub returns : goal.returns
returns c = λ base j events h n empty crash within image chance. HoldsWhole-empty h n j empty (crash.stops n j within image chance)
