use Rattle.std.proofs.Common.{ℕ, List, [], ◌++◌, get_or, ap, sym, ◌∙◌}
use Rattle.bv_volume.proofs.Placed.{among_at, more_blocks}
use Rattle.bv_volume.proofs.device.blocks_of_all.Goals as goal

pub blocks_of-requires : goal.blocks_of-requires
blocks_of-requires g c = c.requires (get_or c.args.roots.now c.loop-root.root-index (record { 0 = [] })) (among_at c.args.roots.now c.loop-root.root-index (record { 0 = [] }) c.loop-root-test.true)

pub loop-root-preserved : goal.loop-root-preserved
loop-root-preserved g c =
    let placed = (g.S.Store.seen c.args.store.now).placed in
    c.in_ok-extend_from_slice.ensures.items ∙ ap (λ (bs : List ℕ). c.loop-root.all.items ++ bs) c.deref.ensures.value
    ∙ ap (λ (xs : List ℕ). xs ++ c.in_ok-blocks.blocks.items) c.loop-root.invariant
    ∙ sym (more_blocks placed c.args.roots.now c.loop-root.root-index (record { 0 = [] }) c.in_ok-blocks.blocks.items c.loop-root-test.true c.in_ok-blocks.ensures)
