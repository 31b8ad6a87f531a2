-- The changes so far are all.
use Rattle.spec_crash.proofs.CrashLemmas.{HoldsWhole-durable}
use Rattle.spec_crash.proofs.laws.a_synced_log_is_in_every_image.Goals as goal

pub returns : goal.returns
returns c = λ base j events h n durable crash within image chance. HoldsWhole-durable h n j durable (crash.stops n j within image chance)
