use Rattle.std.proofs.Common.{◌≡◌, length, rules}
use Rattle.bv_mount.proofs.RecoverLemmas.{recover_refused, recover_done, recover_cut}
use Rattle.bv_mount.proofs.recovering.recover_volume.Goals as goal

pub returns-in_err-inspected : goal.returns-in_err-inspected
returns-in_err-inspected g c = recover_refused c.from_residual.result c.in_err-inspected.field-0.0 _ _ c.from_residual.ensures.1 c.in_err-inspected.ensures.reads

pub returns-in_err-recover_inspected : goal.returns-in_err-recover_inspected
returns-in_err-recover_inspected g c =
    recover_cut c.in_ok-inspected.inspected _ _ _ (g.met.D.Device.told_blocks c.args.dev.now) c.in_ok-inspected.ensures.total c.in_ok-inspected.ensures.reads c.from_residual-in_err-recover_inspected.result c.in_err-recover_inspected.field-0.0 c.from_residual-in_err-recover_inspected.ensures.1
    c.in_err-recover_inspected.ensures.fault c.in_err-recover_inspected.ensures.performs

pub returns : goal.returns
returns g c =
    let count : c.len.result ≡ length c.in_ok-inspected.inspected.replay.entries.items = search rules in
    recover_done c.in_ok-inspected.inspected _ _ _ (g.met.D.Device.told_blocks c.args.dev.now) c.in_ok-inspected.ensures.total c.in_ok-inspected.ensures.reads _ count c.in_ok-recover_inspected.ensures.performs
