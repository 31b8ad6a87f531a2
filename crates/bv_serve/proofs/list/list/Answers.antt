use Rattle.std.proofs.Common.{List, ℕ, Ok, Err, ap, ◌∙◌, subst}
use Rattle.bv_serve.specs.declared.refusal.Refusal.{Refusal}
use Rattle.bv_serve.specs.Lines.{refusal_line, refusal_status}
use Rattle.bv_serve.specs.Runs.{Prints, PrintsAt, change}
use Rattle.bv_serve.proofs.list.list.Goals as goal

pub returns-in-Ok : goal.returns-in-Ok
returns-in-Ok g c = λ input alone. record {
  answer = Ok c.in-Ok.text.items;
  reads = c.in-Ok.ensures;
  reports = subst (λ (t : List ℕ). PrintsAt c.print.result (change (g.K.Sink.seen c.args.out.now) (g.K.Sink.seen c.print.new.out)) t) c.deref.ensures.value c.print.ensures;
  alone = alone;
}

pub returns-in-Err : goal.returns-in-Err
returns-in-Err g c = λ input alone. record {
  answer = Err c.in-Err.fault;
  reads = c.in-Err.ensures;
  reports = (c.refuse.ensures.status ∙ ap refusal_status c.from.ensures, subst (λ (r : Refusal). Prints (change (g.K.Sink.seen c.args.out.now) (g.K.Sink.seen c.refuse.new.out)) (refusal_line r)) c.from.ensures c.refuse.ensures.line);
  alone = alone;
}
