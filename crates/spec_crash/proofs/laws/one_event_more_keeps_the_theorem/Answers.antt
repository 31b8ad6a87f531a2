-- Stops before the event are as they were, and those within it are given.
use Rattle.spec_crash.proofs.CarryLemmas.{CrashPrefix-push}
use Rattle.spec_crash.proofs.laws.one_event_more_keeps_the_theorem.Goals as goal

pub returns : goal.returns
returns c = CrashPrefix-push
