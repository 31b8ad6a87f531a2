-- The lines so far have their rows, of which nothing is told yet, and those that are left come behind.
use Rattle.bv_text.proofs.Tables.{Built}
use Rattle.bv_text.proofs.table.rows_of.Given as goal

abbrev pub invariant-loop-line : goal.invariant-loop-line
invariant-loop-line l = Built l.rows.items l.line-index l.lines
