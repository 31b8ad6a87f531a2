use Rattle.std.proofs.Common.{Err, ap, ◌∙◌, subst}
use Rattle.bv_check.specs.Checks.{findings}
use Rattle.bv_serve.specs.declared.refusal.Refusal.{Refusal}
use Rattle.bv_serve.specs.Lines.{mount_refusal, refusal_line, refusal_status}
use Rattle.bv_serve.specs.Runs.{Prints, change}
use Rattle.bv_serve.proofs.CommandLemmas.{runs_check}
use Rattle.bv_serve.proofs.check.check.Goals as goal

pub returns-in-Ok : goal.returns-in-Ok
returns-in-Ok g c = λ input alone. runs_check (findings c.in-Ok.report) c.print_report.result _ _ input _ c.in-Ok.ensures c.print_report.ensures alone

pub returns-in-Err : goal.returns-in-Err
returns-in-Err g c = λ input alone.
    let same = c.from-in-Err.ensures ∙ ap mount_refusal c.from.ensures in
    record {
      answer = Err c.in-Err.fault;
      reads = c.in-Err.ensures;
      reports = (c.refuse.ensures.status ∙ ap refusal_status same, subst (λ (r : Refusal). Prints (change (g.K.Sink.seen c.args.out.now) (g.K.Sink.seen c.refuse.new.out)) (refusal_line r)) same c.refuse.ensures.line);
      alone = alone;
    }
