use Rattle.std.proofs.Common.{◌≡◌, arith, length}
use Rattle.bv_text.proofs.Tables.{built_next}
use Rattle.bv_text.proofs.table.rows_of.Goals as goal

pub loop-line-preserved : goal.loop-line-preserved
loop-line-preserved c =
    let count : c.len.result ≡ length c.loop-line.rows.items = omega (arith, c.len.ensures, c.loop-line.rows.ok) in
    rw (c.in_ok-push-2.ensures.items, c.row_of-in-loop-line.ensures, c.is_list.ensures)
    (built_next c.loop-line.rows.items c.pad.new.rows.items c.loop-line.line-index c.args.lines.now c.line-item.result c.loop-line.invariant c.loop-line-test.true c.line-item.is
    (rw (c.saturating_sub-gap.ensures, count) at c.in_ok-pad.ensures))
