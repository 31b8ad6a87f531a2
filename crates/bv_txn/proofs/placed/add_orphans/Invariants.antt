use Rattle.std.proofs.Common.{◌≡◌, ◌++◌}
use Rattle.spec_meta.specs.Survey.{of_each}
use Rattle.bv_node.specs.Chains.{nodes_of}
use Rattle.bv_txn.specs.Surveys.{orphan_fault}
use Rattle.bv_txn.proofs.placed.add_orphans.Given as goal

-- the faults of the nodes before this one were added
abbrev pub invariant-loop-k : goal.invariant-loop-k
invariant-loop-k l =
    l.faults.items ≡ l.fn.faults.items ++ of_each l.k (orphan_fault (nodes_of l.nodes l.version) l.placed)
