use Rattle.bv_text.proofs.Tables.{passed_all, passed_first, passed_next}
use Rattle.bv_text.proofs.table.table_of.Goals as goal

pub loop-event-init : goal.loop-event-init
loop-event-init c = passed_first c.args.history.now.history _ _ _ c.args.lines.now c.in_ok-core.ensures.setting c.in_ok-core.ensures.state c.in_ok-rows.ensures.rows c.in_ok-rows.ensures.lines

pub loop-event-preserved : goal.loop-event-preserved
loop-event-preserved c =
    passed_next c.args.history.now.history c.loop-event.event-index _ _ _ _ _ _ _ c.args.lines.now (rw c.events-event-items.ensures at c.loop-event-test.true) c.loop-event.invariant (rw c.events-event-items.ensures at c.in_ok-note.ensures)
    c.in_ok-change.ensures.setting (rw c.events-event-items.ensures at c.in_ok-change.ensures.state)

pub returns : goal.returns
returns c =
    passed_all c.args.history.now.history c.loop-event.event-index c.loop-event.rows.items _ c.loop-event.core.state c.args.lines.now c.loop-event.invariant (rw c.events-event-items.ensures at c.loop-event-test.false) c.requires.told
