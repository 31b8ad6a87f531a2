use Rattle.bv_device.proofs.CrashLemmas.{Ran-left_by_plan}
use Rattle.bv_device.proofs.laws.a_run_leaves_what_its_plan_leaves.Goals as goal

pub returns : goal.returns
returns c result d plan new planned f = Ran-left_by_plan result d plan new planned f
