use Rattle.std.proofs.Common.{◌++◌}
use Rattle.bv_device.proofs.SeenLemmas.{Performs-append, Performs-stopped}
use Rattle.bv_format.specs.Plan.{clear_plan, behind_plan, super_plan}
use Rattle.bv_format.proofs.phases.make_volume.Goals as goal

pub returns-in_err-write_behind : goal.returns-in_err-write_behind
returns-in_err-write_behind g c =
    Performs-append c.from_residual-in_err-write_behind.result _ clear_plan (behind_plan c.args.geometry.now ++ super_plan c.args.geometry.now) _ _ _ c.in_ok-clear_super.ensures
    (Performs-stopped c.from_residual-in_err-write_behind.result _ (behind_plan c.args.geometry.now) (super_plan c.args.geometry.now) _ _ c.in_err-write_behind.ensures c.from_residual-in_err-write_behind.ensures.1)

pub returns : goal.returns
returns g c =
    Performs-append c.put_super.result _ clear_plan (behind_plan c.args.geometry.now ++ super_plan c.args.geometry.now) _ _ _ c.in_ok-clear_super.ensures
    (Performs-append c.put_super.result _ (behind_plan c.args.geometry.now) (super_plan c.args.geometry.now) _ _ _ c.in_ok-write_behind.ensures
    c.put_super.ensures)
