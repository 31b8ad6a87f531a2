use Rattle.std.proofs.Common.{◌≤◌, length}
use Rattle.bv_txn.specs.Metas.{metadata_of}
use Rattle.bv_journaled.proofs.FreeingLemmas.{FreeBelow}
use Rattle.bv_journaled.proofs.freeing.first_free_nodes.Given as goal

-- all free nodes so far, and not too many
abbrev pub invariant-loop-node : goal.invariant-loop-node
invariant-loop-node l = record {
  below : FreeBelow (metadata_of l.meta) l.node l.free.items;
  few : length l.free.items ≤ l.count;
}
