use Rattle.std.proofs.Common.{◌∙◌, ap, sym, ℕ, true, false, length}
use Rattle.bv_model.proofs.Durable.{logged_all, logged_more, logged_end}
use Rattle.bv_model.proofs.Rescans.{state_at_end}
use Rattle.spec_core.specs.State.{State}
use Rattle.bv_model.proofs.rescan.logged_by.Goals as goal

pub loop-i-init : goal.loop-i-init
loop-i-init c = λ next. logged_all c.args.h.now.history next c.args.calls

pub loop-i-preserved : goal.loop-i-preserved
loop-i-preserved c = λ next.
    sym (logged_more c.args.h.now.history next c.args.calls c.loop-i.i _ false (rw c.events-events.ensures at c.loop-i-test.true) (rw c.events-events.ensures at (sym c.reaches.ensures ∙ c.if-reaches.false))) ∙ c.loop-i.invariant next

pub returns-then-reaches : goal.returns-then-reaches
returns-then-reaches c =
    let next : ℕ = c.requires.legal.0 in
    c.log_after.ensures next c.requires.legal.1 ∙ sym (logged_more c.args.h.now.history next c.args.calls c.loop-i.i _ true (rw c.events-events.ensures at c.loop-i-test.true) (rw c.events-events.ensures at (sym c.reaches.ensures ∙ c.if-reaches.true))) ∙ c.loop-i.invariant next

pub returns : goal.returns
returns c =
    let next : ℕ = c.requires.legal.0 in
    c.log_after-2.ensures next c.requires.legal.1
    ∙ ap (λ (s : State). length s.log) (state_at_end c.args.h.now.history next _ (ap length c.events-events.ensures))
    ∙ sym (logged_end c.args.h.now.history next c.args.calls c.loop-i.i (rw c.events-events.ensures at c.loop-i-test.false)) ∙ c.loop-i.invariant next
