-- The rows say what the events so far tell, and these led to the core's state.
use Rattle.bv_text.proofs.Tables.{Passed}
use Rattle.bv_text.proofs.table.table_of.Given as goal

abbrev pub invariant-loop-event : goal.invariant-loop-event
invariant-loop-event l = Passed l.history.history l.event-index l.rows.items l.core.setting l.core.state l.lines
