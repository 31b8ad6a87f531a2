use Rattle.std.proofs.Common.{None, Err, subst, sym}
use Rattle.bv_device.specs.Seen.{Seen}
use Rattle.bv_mounted.proofs.CallerLemmas.{inspect_gives}
use Rattle.bv_serve.specs.declared.refusal.Refusal.{Refusal}
use Rattle.bv_run.specs.Outcomes.{Came}
use Rattle.bv_run.proofs.RefusedLemmas.{not_inspected, reads_same}
use Rattle.bv_run.proofs.running.run_there.Goals as goal

pub run_inspected-requires-clause-gives : goal.run_inspected-requires-clause-gives
run_inspected-requires-clause-gives g c κs within =
    inspect_gives c.in-Ok.inspected (g.D.Device.seen c.args.dev) (g.D.Device.seen c.inspect.new.dev) c.in-Ok.ensures.reads

pub returns-in-Ok : goal.returns-in-Ok
returns-in-Ok g c =
    subst (λ (s : Seen). Came c.args.script.now None c.run_inspected.result.0 s (g.D.Device.seen c.run_inspected.result.1))
    (reads_same (g.D.Device.seen c.args.dev) (g.D.Device.seen c.inspect.new.dev) c.in-Ok.ensures.reads.only) c.run_inspected.ensures

pub returns-in-Err : goal.returns-in-Err
returns-in-Err g c =
    subst (λ (r : Refusal). Came c.args.script.now None (Err r) (g.D.Device.seen c.args.dev) (g.D.Device.seen c.inspect.new.dev)) (sym c.from.ensures)
    (not_inspected c.args.script.now c.in-Err.fault (g.D.Device.seen c.args.dev) (g.D.Device.seen c.inspect.new.dev) c.in-Err.ensures.reads)
