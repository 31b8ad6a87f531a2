use Rattle.std.proofs.Common.{◌≡◌, ◌≤◌, drop, length}
use Rattle.spec_meta.specs.Survey.{root_counts}
use Rattle.bv_txn.proofs.roots.count_roots.Given as goal

-- the roots of the blobs behind those that are left
abbrev pub invariant-loop-left : goal.invariant-loop-left
invariant-loop-left l = record {
  within : l.left ≤ length l.blobs;
  counts_are : l.counts.entries ≡ root_counts (drop l.left l.blobs);
}

abbrev pub decreases-loop-left : goal.decreases-loop-left
decreases-loop-left l = l.left
