use Rattle.std.proofs.Common.{◌≡◌, length, rules}
use Rattle.bv_mount.proofs.UpgradeLemmas.{upgrade_refused, upgrade_done, upgrade_cut}
use Rattle.bv_mount.proofs.upgrading.upgrade.Goals as goal

pub returns-in_err-inspected : goal.returns-in_err-inspected
returns-in_err-inspected g c = upgrade_refused c.from_residual.result c.in_err-inspected.field-0.0 _ _ c.from_residual.ensures.1 c.in_err-inspected.ensures.reads

pub returns-in_err-upgrade_inspected : goal.returns-in_err-upgrade_inspected
returns-in_err-upgrade_inspected g c =
    upgrade_cut c.in_ok-inspected.inspected _ _ _ (g.met.D.Device.told_blocks c.args.dev.now) c.in_ok-inspected.ensures.total c.in_ok-inspected.ensures.reads c.from_residual-in_err-upgrade_inspected.result c.in_err-upgrade_inspected.field-0.0 c.from_residual-in_err-upgrade_inspected.ensures.1
    c.in_err-upgrade_inspected.ensures.fault c.in_err-upgrade_inspected.ensures.performs

pub returns : goal.returns
returns g c =
    let count : c.len.result ≡ length c.in_ok-inspected.inspected.replay.entries.items = search rules in
    upgrade_done c.in_ok-inspected.inspected _ _ _ (g.met.D.Device.told_blocks c.args.dev.now) c.in_ok-inspected.ensures.total c.in_ok-inspected.ensures.reads _ count c.in_ok-upgrade_inspected.ensures.performs
