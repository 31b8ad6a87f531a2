use Rattle.std.proofs.Common.{◌≡◌, ◌≤◌, ◌<◌, ◌+◌, ◌-◌, ℕ, length, arith}
use Rattle.std.specs.List.{range_with_len, sum_by}
use Rattle.spec_tree.specs.Tree.{digests_at, levels_of, tree_blocks_of}
use Rattle.spec_tree.proofs.SizesLemmas.{levels_of-few}
use Rattle.bv_fetch.proofs.Amongs.{padded-there}
use Rattle.bv_fetch.proofs.Sees.{ok_then, one_block, sees_so}
use Rattle.bv_fetch.proofs.Steps.{padded_step}
use Rattle.bv_fetch.proofs.tree.read_padded.Goals as goal

there : (size level i dg n : ℕ) → 1 ≤ level → level ≤ levels_of size → i < digests_at size level → n ≡ tree_blocks_of 1 size → dg ≡ sum_by (digests_at size) (range_with_len 1 (level - 1)) → dg + i < n
there size level i dg n low high below count is = omega (arith, padded-there size level i low high below, count, is)

pub digests_of-requires-clause-count : goal.digests_of-requires-clause-count
digests_of-requires-clause-count g c = omega (arith, levels_of-few c.args.size (omega arith))

pub overflow_add-at : goal.overflow_add-at
overflow_add-at g c = omega (arith, there c.args.size c.args.level c.args.i c.digests_of.result (length c.args.tree.now) c.requires.lowest c.requires.highest c.requires.block c.requires.count c.digests_of.ensures.value)

pub offset_bounds-tree-at : goal.offset_bounds-tree-at
offset_bounds-tree-at g c = omega (arith, there c.args.size c.args.level c.args.i c.digests_of.result (length c.args.tree.now) c.requires.lowest c.requires.highest c.requires.block c.requires.count c.digests_of.ensures.value)

pub bounds-tree-at : goal.bounds-tree-at
bounds-tree-at g c = there c.args.size c.args.level c.args.i c.digests_of.result (length c.args.tree.now) c.requires.lowest c.requires.highest c.requires.block c.requires.count c.digests_of.ensures.value

pub read-requires : goal.read-requires
read-requires g c = c.requires.within (c.digests_of.result + c.args.i) 0 (there c.args.size c.args.level c.args.i c.digests_of.result (length c.args.tree.now) c.requires.lowest c.requires.highest c.requires.block c.requires.count c.digests_of.ensures.value)

pub returns-clause-now : goal.returns-clause-now
returns-clause-now g c =
    let s = g.S.Store.seen c.args.store.now in
    ok_then c.read.result c.read.ensures.blob
    (λ h. sees_so s _ _ (λ d is. padded_step s.geometry d c.args.tree.now c.args.size c.args.level c.args.i c.digests_of.result c.read.new.into c.digests_of.ensures.value (there c.args.size c.args.level c.args.i c.digests_of.result (length c.args.tree.now) c.requires.lowest c.requires.highest c.requires.block c.requires.count c.digests_of.ensures.value) is)
    (one_block s c.read.new.into _ (c.requires.blobs (c.digests_of.result + c.args.i) 0 (there c.args.size c.args.level c.args.i c.digests_of.result (length c.args.tree.now) c.requires.lowest c.requires.highest c.requires.block c.requires.count c.digests_of.ensures.value)) h))
