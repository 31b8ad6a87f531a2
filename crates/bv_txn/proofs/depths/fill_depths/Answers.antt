-- The depth before this block, its starts and its ends give its depth.
use Rattle.std.proofs.Common.{◌≡◌, ℕ, ◌+◌, ◌-◌, get_or, sym, ◌∙◌, arith}
use Rattle.spec_image.specs.WellFormed.{extents_with}
use Rattle.bv_txn.proofs.DepthLemmas.{turns, reaches_none, reaches_next, next_depths}
use Rattle.bv_txn.proofs.depths.fill_depths.Goals as goal

pub loop-d-init : goal.loop-d-init
loop-d-init c = record {
  depth_is = sym (reaches_none c.args.blobs.now);
  before = λ d lt. absurd (omega (arith, lt));
  behind = λ d from lt. c.count_all_edges.ensures.starts d (omega arith);
}

pub overflow_add-depth : goal.overflow_add-depth
overflow_add-depth c =
    let d = c.loop-d.d in
    let t = turns _ d c.args.blobs.now c.requires.extents in
    omega (arith, t.even, t.few, c.requires.few, c.loop-d.invariant.depth_is, c.loop-d.invariant.behind d (omega arith) (omega arith))

pub overflow_sub-depth : goal.overflow_sub-depth
overflow_sub-depth c =
    let d = c.loop-d.d in
    let t = turns _ d c.args.blobs.now c.requires.extents in
    omega (arith, t.even, c.loop-d.invariant.depth_is, c.count_all_edges.ensures.ends d (omega arith), c.loop-d.invariant.behind d (omega arith) (omega arith))

pub loop-d-preserved : goal.loop-d-preserved
loop-d-preserved c =
    let d : ℕ = c.loop-d.d in
    let t = turns _ d c.args.blobs.now c.requires.extents in
    let depth : c.loop-d.depth + get_or c.loop-d.depths d 0 - get_or c.count_all_edges.new.ends d 0 ≡ extents_with c.args.blobs.now d =
    omega (arith, t.even, c.loop-d.invariant.depth_is, c.count_all_edges.ensures.ends d (omega arith), c.loop-d.invariant.behind d (omega arith) (omega arith)) in
    let kept = next_depths c.args.blobs.now c.loop-d.depths d _ (omega arith) depth c.loop-d.invariant.before c.loop-d.invariant.behind in
    record {
      depth_is = depth ∙ sym (reaches_next d c.args.blobs.now);
      before = kept.before;
      behind = kept.behind;
    }
