-- No root is counted more often than there are blobs.
use Rattle.std.proofs.Common.{drop, arith}
use Rattle.std.proofs.lemmas.List.{length-drop}
use Rattle.bv_txn.proofs.RootLemmas.{counted_few, counts_more}
use Rattle.bv_txn.proofs.roots.count_roots.Goals as goal

pub count_root-requires : goal.count_root-requires
count_root-requires c =
    omega (arith, counted_few (drop c.loop-left.left c.args.blobs.now) c.loop-left.counts.entries c.root.result c.loop-left.invariant.counts_are, length-drop c.loop-left.left c.args.blobs.now)

pub loop-left-preserved : goal.loop-left-preserved
loop-left-preserved c = record {
  within = omega arith;
  counts_are = counts_more c.args.blobs.now c.loop-left.left c.index-blobs-left.result c.root.result c.loop-left.counts.entries c.count_root.new.counts.entries c.loop-left-test.true c.loop-left.invariant.within c.index-blobs-left.is c.root.ensures c.loop-left.invariant.counts_are c.in_ok-count_root.ensures;
}
