use Rattle.bv_txn.specs.Surveys.{overlap_fault}
use Rattle.bv_txn.proofs.FaultLemmas.{faults_more}
use Rattle.bv_txn.proofs.tallies.add_overlaps.Goals as goal

pub loop-d-preserved : goal.loop-d-preserved
loop-d-preserved c =
    faults_more c.args.faults.now.items c.loop-d.faults.items c.add_overlap.new.faults.items (overlap_fault c.args.depths.now) c.loop-d.d c.loop-d.invariant c.in_ok-add_overlap.ensures
