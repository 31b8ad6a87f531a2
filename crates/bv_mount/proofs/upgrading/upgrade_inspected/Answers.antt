use Rattle.bv_device.proofs.SeenLemmas.{Performs-append, Performs-stopped}
use Rattle.bv_mount.specs.Inspects.{inspection}
use Rattle.bv_mount.specs.Recovers.{plan_for}
use Rattle.bv_mount.specs.Upgrades.{newest_plan}
use Rattle.bv_mount.proofs.upgrading.upgrade_inspected.Goals as goal

pub returns-in_err-recover_inspected-clause-performs : goal.returns-in_err-recover_inspected-clause-performs
returns-in_err-recover_inspected-clause-performs g c =
    let i = inspection c.args.inspected.now in
    Performs-stopped c.from_residual.result c.in_err-recover_inspected.field-0.0 (plan_for i) (newest_plan i) _ _ c.in_err-recover_inspected.ensures.performs c.from_residual.ensures.1

pub returns-clause-performs : goal.returns-clause-performs
returns-clause-performs g c =
    let i = inspection c.args.inspected.now in
    Performs-append c.renew_inspected.result tt (plan_for i) (newest_plan i) _ _ _ c.in_ok-recover_inspected.ensures.performs c.renew_inspected.ensures.performs
