use Rattle.std.proofs.Common.{◌∙◌, sym, ℕ, true, false, arith}
use Rattle.bv_model.proofs.Durable.{synced_all, synced_step, synced_end}
use Rattle.bv_model.proofs.rescan.synced_by.Goals as goal
use Rattle.bv_model.proofs.rescan.synced_by.Goals.{then-is_by, else-is_by}

pub loop-i-init : goal.loop-i-init
loop-i-init c = record {
  synced = λ next. synced_all c.args.h.now.history next c.args.calls;
  within = omega arith;
}

pub loop-i-preserved : goal.loop-i-preserved
loop-i-preserved c = record {
  synced = λ next. elim c.if-is_by.branch [
    | then-is_by w ↦ synced_step c.args.h.now.history next c.args.calls c.loop-i.count c.if-is_by.count c.loop-i.i _ true _ (rw c.events-events.ensures at c.loop-i-test.true) (rw c.events-events.ensures at (sym c.is_by.ensures ∙ w.if-is_by.true)) w.count-is (c.loop-i.invariant.synced next)
    | else-is_by w ↦ synced_step c.args.h.now.history next c.args.calls c.loop-i.count c.if-is_by.count c.loop-i.i _ false _ (rw c.events-events.ensures at c.loop-i-test.true) (rw c.events-events.ensures at (sym c.is_by.ensures ∙ w.if-is_by.false)) w.count-is (c.loop-i.invariant.synced next)
  ];
  within = elim c.if-is_by.branch [
    | then-is_by w ↦ omega (arith, w.count-is)
    | else-is_by w ↦ omega (arith, w.count-is, c.loop-i.invariant.within)
  ];
}

pub returns : goal.returns
returns c =
    let next : ℕ = c.requires.legal.0 in
    c.log_after.ensures next c.requires.legal.1 ∙ sym (synced_end c.args.h.now.history next c.args.calls _ c.loop-i.i (rw c.events-events.ensures at c.loop-i-test.false)) ∙ c.loop-i.invariant.synced next
