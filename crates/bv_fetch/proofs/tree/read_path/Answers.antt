use Rattle.std.proofs.Common.{◌≡◌, ℕ, ◌+◌, map, ap, sym, subst, ◌∙◌, arith}
use Rattle.std.specs.List.{range_with_len}
use Rattle.spec_window.specs.Window.{index_above}
use Rattle.bv_store.specs.Stored.{Stored, blocks_on}
use Rattle.bv_fetch.specs.Reading.{AreOfBlobs}
use Rattle.bv_fetch.specs.Windows.{block_among}
use Rattle.bv_fetch.proofs.Sees.{sees_same, sees_so, sees_two, stays_of, stays_then}
use Rattle.bv_fetch.proofs.Steps.{path_step}
use Rattle.bv_fetch.proofs.Sums.{index-there}
use Rattle.bv_fetch.proofs.tree.read_path.Goals as goal

pub read_tree_block-requires-clause-block : goal.read_tree_block-requires-clause-block
read_tree_block-requires-clause-block g c = omega (arith, index-there c.args.size c.args.window (c.loop-below.below + 1) c.requires.window, c.index_above-i.ensures.value)

pub read_tree_block-requires-clause-blobs : goal.read_tree_block-requires-clause-blobs
read_tree_block-requires-clause-blobs g c =
    subst (λ (x : Stored). AreOfBlobs x c.args.tree.now) (sym c.loop-below.invariant.stays.same) c.requires.blobs

pub loop-below-preserved : goal.loop-below-preserved
loop-below-preserved g c =
    let old = c.args.store.now in
    let mid = c.loop-below.store in
    let new = c.read_tree_block.new.store in
    let s = g.S.Store.seen old in
    let inv = c.loop-below.invariant in
    let below = c.loop-below.below in
    let i = c.index_above-i.result in
    let x = c.read_tree_block.new.into in
    record {
      stays = stays_then (g.S.Store.seen old) (g.S.Store.seen mid) (g.S.Store.seen new) (g.S.Store.both old) (g.S.Store.both mid) (g.S.Store.both new) (g.S.Store.held old) (g.S.Store.held mid) (g.S.Store.held new) inv.stays
          (stays_of (g.S.Store.seen mid) (g.S.Store.seen new) (g.S.Store.both mid) (g.S.Store.both new) (g.S.Store.held mid) (g.S.Store.held new) tt c.in_ok-read_tree_block.ensures.reads);
      len = omega (arith, c.push_block.ensures.len, inv.len);
      room = omega (arith, inv.room, c.push_block.ensures.room);
      now = sees_two s _ (λ d. x ≡ block_among c.args.version c.args.size (blocks_on s.geometry d c.args.tree.now) (below + 1) i) _
          (λ d p q. path_step s.geometry d c.args.tree.now c.args.version c.args.size c.args.window below i c.loop-below.path.items c.push_block.new.out.items x c.index_above-i.ensures.value p q c.push_block.ensures.items)
          inv.now
          (sees_same s (g.S.Store.seen mid) (λ geometry d. x ≡ block_among c.args.version c.args.size (blocks_on geometry d c.args.tree.now) (below + 1) i) inv.stays.same c.in_ok-read_tree_block.ensures.now);
    }

pub returns-clause-now : goal.returns-clause-now
returns-clause-now g c =
    let s = g.S.Store.seen c.args.store.now in
    let all : c.loop-below.below ≡ c.levels-below-end.result = omega (arith, c.loop-below-test.false, c.loop-below.auto) in
    sees_so s _ _ (λ d p. p ∙ ap (λ (n : ℕ). map (λ level. block_among c.args.version c.args.size (blocks_on s.geometry d c.args.tree.now) level (index_above c.args.window level)) (range_with_len 1 n)) (all ∙ c.levels-below-end.ensures.levels)) c.loop-below.invariant.now
