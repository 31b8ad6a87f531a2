use Rattle.std.proofs.Common.{◌∙◌}
use Rattle.bv_io.proofs.StreamLemmas.{length-filled_on, Consumes-filled_on}
use Rattle.bv_io.proofs.filling.fill.Goals as goal

pub loop-filled-preserved : goal.loop-filled-preserved
loop-filled-preserved g c =
    let before = c.loop-filled.invariant in
    let took = c.in_ok-count.ensures in
    record {
      within = length-filled_on c.loop-filled.into c.take.new.into _ _ _ before.within took.ok.within;
      moved = Consumes-filled_on _ _ _ c.loop-filled.into c.take.new.into _ _ _ before.within took.ok.within before.moved took.ok.moved;
      faults = took.faults.kept ∙ before.faults;
    }
