use Rattle.std.proofs.Common.{◌≡◌, length, take}
use Rattle.bv_txn.specs.Surveys.{ArePlaced}
use Rattle.bv_txn.proofs.placed.placed_nodes.Given as goal

-- the nodes of the blobs before this one are marked
abbrev pub invariant-loop-blob : goal.invariant-loop-blob
invariant-loop-blob l = record {
  count_is : length l.placed.items ≡ l.count;
  placed_are : ArePlaced (take l.blob-index l.blobs) l.placed.items;
}
