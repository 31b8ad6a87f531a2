use Rattle.spec_image.specs.WellFormed.{records_below}
use Rattle.bv_txn.proofs.reading.read_chains.Goals as goal

pub loop-k-init : goal.loop-k-init
unfolding records_below
loop-k-init c = record { blobs_are = c.new.ensures.items; faults_are = c.new-2.ensures.items }
