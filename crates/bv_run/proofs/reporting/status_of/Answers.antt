use Rattle.bv_run.proofs.StatusLemmas.{met_mismatch}
use Rattle.bv_run.proofs.reporting.status_of.Goals as goal

pub returns-then-met_mismatch : goal.returns-then-met_mismatch
returns-then-met_mismatch c =
    let mismatch = met_mismatch c.args.script.now c.args.history.now.history c.args.ends.now c.met_mismatch.result c.requires.count c.met_mismatch.ensures in
    (λ met. absurd (cc (c.met_fault.ensures.1 met, c.if-met_fault.false)), mismatch.0 c.if-met_mismatch.true)

pub returns-else-met_mismatch : goal.returns-else-met_mismatch
returns-else-met_mismatch c =
    let mismatch = met_mismatch c.args.script.now c.args.history.now.history c.args.ends.now c.met_mismatch.result c.requires.count c.met_mismatch.ensures in
    (λ met. absurd (cc (c.met_fault.ensures.1 met, c.if-met_fault.false)), λ met. absurd (cc (mismatch.1 met, c.if-met_mismatch.false)))
