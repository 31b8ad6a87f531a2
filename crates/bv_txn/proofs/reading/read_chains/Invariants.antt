use Rattle.std.proofs.Common.{◌≡◌}
use Rattle.spec_image.specs.WellFormed.{records_below}
use Rattle.spec_meta.specs.Survey.{of_each}
use Rattle.bv_node.specs.Chains.{nodes_of}
use Rattle.bv_txn.specs.Surveys.{node_faults}
use Rattle.bv_txn.proofs.reading.read_chains.Given as goal

-- the blobs and the faults of the nodes before this one
abbrev pub invariant-loop-k : goal.invariant-loop-k
invariant-loop-k l = record {
  blobs_are : l.survey.blobs.items ≡ records_below (nodes_of l.nodes l.geometry.version) l.geometry.blocks l.k;
  faults_are : l.survey.faults.items ≡ of_each l.k (node_faults (nodes_of l.nodes l.geometry.version) l.geometry.blocks);
}
