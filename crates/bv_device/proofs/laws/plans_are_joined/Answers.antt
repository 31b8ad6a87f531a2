use Rattle.bv_device.proofs.PlanLemmas.{IsPlan-append, IsPlan-writes, writes-append}
use Rattle.bv_device.proofs.laws.plans_are_joined.Goals as goal

pub returns : goal.returns
returns c = record { plan = IsPlan-append; writes = IsPlan-writes; one_after_another = writes-append }
