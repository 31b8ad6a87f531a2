use Rattle.bv_node.specs.Chains.{nodes_of}
use Rattle.bv_txn.specs.Surveys.{orphan_fault}
use Rattle.bv_txn.proofs.FaultLemmas.{faults_more}
use Rattle.bv_txn.proofs.placed.add_orphans.Goals as goal

pub loop-k-preserved : goal.loop-k-preserved
loop-k-preserved c =
    faults_more c.args.faults.now.items c.loop-k.faults.items c.add_orphan.new.faults.items (orphan_fault (nodes_of c.args.nodes.now c.args.version) c.args.placed.now) c.loop-k.k c.loop-k.invariant c.in_ok-add_orphan.ensures
