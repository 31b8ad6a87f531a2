use Rattle.std.proofs.Common.{subst, sym}
use Rattle.bv_serve.specs.declared.refusal.Refusal.{Refusal}
use Rattle.bv_serve.specs.Runs.{change}
use Rattle.bv_run.specs.Asked.{IsUnread}
use Rattle.bv_run.proofs.AskedLemmas.{unread}
use Rattle.bv_run.proofs.asking.read_script.Goals as goal

pub returns-in-Err-clause-err : goal.returns-in-Err-clause-err
returns-in-Err-clause-err g c =
    subst (λ (r : Refusal). IsUnread r (change (g.S.Source.seen c.args.input.now) (g.S.Source.seen c.read_all.new.source))) (sym c.from.ensures)
    (unread c.in-Err.fault c.read_all.result (change (g.S.Source.seen c.args.input.now) (g.S.Source.seen c.read_all.new.source)) c.in-Err.is
    c.in-Err.ensures.err c.read_all.ensures.too_long c.read_all.ensures.faults)
