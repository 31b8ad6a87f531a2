use Rattle.std.proofs.Common.{◌⊎◌, List, Option, Result, Ok, Err, refl, subst}
use Rattle.spec_record.specs.declared.geometry.Geometry.{Geometry}
use Rattle.spec_session.specs.declared.end.SessionEnd.{SessionEnd}
use Rattle.spec_headline.specs.Run.{run_of}
use Rattle.bv_serve.specs.declared.refusal.Refusal.{Refusal}
use Rattle.bv_serve.specs.declared.refusal.Refusal.TheVariants as refusals
use Rattle.bv_run.specs.Reports.{ReportsRefusal, ReportsRun, printed}
use Rattle.bv_serve.specs.Runs.{change}
use Rattle.bv_run.specs.declared.finished.Finished.{Finished}
use Rattle.bv_run.specs.Outcomes.{Came}
use Rattle.bv_run.proofs.ScriptLemmas.{runs_ended, runs_refused, runs_unasked, tells_roots}
use Rattle.bv_run.proofs.script.run_script.Goals as goal

pub returns-in-Err : goal.returns-in-Err
returns-in-Err g c =
    runs_unasked c.args.form c.in-Err.refusal c.refuse.result (g.D.Device.seen c.args.dev) _ _ c.in-Err.ensures.err c.refuse.ensures.status c.refuse.ensures.line

pub report-requires-clause-told : goal.report-requires-clause-told
report-requires-clause-told g c =
    let came = subst (λ (r : Result Finished Refusal). Came c.in-Ok.script c.made.result r (g.D.Device.seen c.args.dev) (g.D.Device.seen c.run_on-run.result.1)) c.in-Ok-run.is c.run_on-run.ensures in
    tells_roots c.in-Ok.script c.in-Ok-run.run'.history.history _ _ _ _ c.lines-lines.ensures.lawful refl refl came.1.1.holds

pub returns-in-Ok-run : goal.returns-in-Ok-run
returns-in-Ok-run g c =
    let came = subst (λ (r : Result Finished Refusal). Came c.in-Ok.script c.made.result r (g.D.Device.seen c.args.dev) (g.D.Device.seen c.run_on-run.result.1)) c.in-Ok-run.is c.run_on-run.ensures in
    runs_ended c.args.form c.in-Ok-run.run' c.report.result c.in-Ok.script (g.D.Device.seen c.args.dev) (g.D.Device.seen c.run_on-run.result.1) _ (change (g.K.Sink.seen c.args.out.now) (g.K.Sink.seen c.report.new.out)) c.in-Ok.ensures.ok
    (subst (λ (es : List SessionEnd).
    ReportsRefusal refusals.NoMemory c.report.result (change (g.K.Sink.seen c.args.out.now) (g.K.Sink.seen c.report.new.out))
    ⊎ ReportsRun (printed c.args.form (run_of c.in-Ok.script c.in-Ok-run.run'.history.history es)) (run_of c.in-Ok.script c.in-Ok-run.run'.history.history es)
    c.report.result (change (g.K.Sink.seen c.args.out.now) (g.K.Sink.seen c.report.new.out))) c.deref.ensures.value c.report.ensures)
    (subst (λ (m : Option Geometry). Came c.in-Ok.script m (Ok c.in-Ok-run.run') (g.D.Device.seen c.args.dev) (g.D.Device.seen c.run_on-run.result.1)) c.made.ensures came)

pub returns : goal.returns
returns g c =
    let refusal = c.in-Err-run.refusal in
    let came = subst (λ (r : Result Finished Refusal). Came c.in-Ok.script c.made.result r (g.D.Device.seen c.args.dev) (g.D.Device.seen c.run_on-run.result.1)) c.in-Err-run.is c.run_on-run.ensures in
    runs_refused c.args.form refusal c.refuse-in-Err-run.result c.in-Ok.script (g.D.Device.seen c.args.dev) (g.D.Device.seen c.run_on-run.result.1) _ (change (g.K.Sink.seen c.args.out.now) (g.K.Sink.seen c.refuse-in-Err-run.new.out))
    c.in-Ok.ensures.ok c.refuse-in-Err-run.ensures.status c.refuse-in-Err-run.ensures.line
    (subst (λ (m : Option Geometry). Came c.in-Ok.script m (Err refusal) (g.D.Device.seen c.args.dev) (g.D.Device.seen c.run_on-run.result.1)) c.made.ensures came)
