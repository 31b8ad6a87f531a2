use Rattle.bv_journal.proofs.PlanLemmas.{IsPlan-ring, IsPlan-checkpoint, IsPlan-recover}
use Rattle.bv_journal.proofs.stops.the_plans_of_a_journal_are_plans.Goals as goal

pub returns-clause-append : goal.returns-clause-append
returns-clause-append c = IsPlan-ring

pub returns-clause-checkpoint : goal.returns-clause-checkpoint
returns-clause-checkpoint c = IsPlan-checkpoint

pub returns-clause-recovery : goal.returns-clause-recovery
returns-clause-recovery c = IsPlan-recover
