use Rattle.std.proofs.Common.{Some, Err, ap, subst, sym}
use Rattle.bv_serve.specs.declared.refusal.Refusal.{Refusal}
use Rattle.bv_run.specs.Outcomes.{Came}
use Rattle.bv_run.proofs.MakingLemmas.{not_made, raise_came}
use Rattle.bv_run.proofs.running.run_fresh.Goals as goal

pub returns-in-Ok : goal.returns-in-Ok
returns-in-Ok g c =
    raise_came c.args.geometry (g.D.Device.seen c.args.dev) (g.D.Device.seen c.format.new.dev) c.in-Ok.ensures.formats c.args.script.now
    c.run_there.result.0 (g.D.Device.seen c.run_there.result.1) c.run_there.ensures

pub returns-in-Err : goal.returns-in-Err
returns-in-Err g c =
    subst (λ (r : Refusal). Came c.args.script.now (Some c.args.geometry) (Err r) (g.D.Device.seen c.args.dev) (g.D.Device.seen c.format.new.dev)) (sym c.refusal_of.ensures)
    (not_made c.args.script.now c.args.geometry c.in-Err.fault (g.D.Device.seen c.args.dev) (g.D.Device.seen c.format.new.dev) c.in-Err.ensures.counts c.in-Err.ensures.short
    (λ r. ap g.D.Device.seen (c.in-Err.ensures.untouched r)) c.in-Err.ensures.formats)
