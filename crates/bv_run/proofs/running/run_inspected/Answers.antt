use Rattle.std.proofs.Common.{None, Err, refl, subst, sym}
use Rattle.bv_serve.specs.declared.refusal.Refusal.{Refusal}
use Rattle.bv_run.specs.Outcomes.{Came}
use Rattle.bv_run.proofs.RanLemmas.{ran}
use Rattle.bv_run.proofs.RefusedLemmas.{no_memory, not_mounted}
use Rattle.bv_run.proofs.running.run_inspected.Goals as goal

pub returns-in-Err : goal.returns-in-Err
returns-in-Err g c = no_memory c.args.script.now (g.D.Device.seen c.args.dev) (g.D.Device.seen c.args.dev) refl

pub returns-in-Ok-mount : goal.returns-in-Ok-mount
returns-in-Ok-mount g c =
    ran (g.D.Device.seen c.args.dev) c.args.inspected _ c.in-Ok-mount.volume c.args.script.now c.run_mounted.result.0 (g.D.Device.seen c.run_mounted.result.1)
    c.in-Ok-mount.ensures.ok c.requires.gives c.run_mounted.ensures

pub returns : goal.returns
returns g c =
    subst (λ (r : Refusal). Came c.args.script.now None (Err r) (g.D.Device.seen c.args.dev) (g.D.Device.seen c.in-Err-mount.dev)) (sym c.from.ensures)
    (not_mounted (g.D.Device.seen c.args.dev) c.args.inspected (g.D.Device.seen c.in-Err-mount.dev) c.requires.gives c.args.script.now c.in-Err-mount.fault c.in-Err-mount.ensures.err)
