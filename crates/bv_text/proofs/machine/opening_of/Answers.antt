use Rattle.std.proofs.Common.{◌∙◌}
use Rattle.bv_text.proofs.Openings.{mapped_more}
use Rattle.bv_text.proofs.machine.opening_of.Goals as goal

pub loop-root-preserved : goal.loop-root-preserved
loop-root-preserved c =
    c.in_ok-insert.ensures.entries ∙ rw (c.loop-root.invariant, c.opening-root-items.ensures)
    (mapped_more c.args.h.now.history.opening c.loop-root.root-index _ (rw c.opening-root-items.ensures at c.loop-root-test.true) c.requires)
