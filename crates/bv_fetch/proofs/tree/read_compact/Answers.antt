use Rattle.std.proofs.Common.{◌≡◌, ◌+◌, ◌*◌, ◌/◌, ℕ, get_or, length, ap, sym, subst, ◌∙◌, arith}
use Rattle.std.specs.Prelude.{Contains}
use Rattle.spec_disk.specs.Disk.{block}
use Rattle.spec_record.specs.Geometry.{block_at}
use Rattle.spec_tree.proofs.SizesLemmas.{levels_of-few}
use Rattle.bv_device.specs.Told.{now_of}
use Rattle.bv_store.specs.Stored.{Stored, blocks_in}
use Rattle.bv_fetch.proofs.Compacts.{compact_one, compact_two, few, first_there, next_there}
use Rattle.bv_fetch.proofs.Sees.{one_block, sees_given, sees_on, sees_so, sees_two}
use Rattle.bv_fetch.proofs.Steps.{as_long, block_is}
use Rattle.bv_fetch.proofs.tree.read_compact.Goals as goal

pub digests_of-requires-clause-count : goal.digests_of-requires-clause-count
digests_of-requires-clause-count g c = omega (arith, levels_of-few c.args.size (omega arith))

pub overflow_mul-place : goal.overflow_mul-place
overflow_mul-place g c = omega (arith, few c.args.size c.args.level c.args.i c.requires.lowest c.requires.block (omega arith))

pub overflow_add-place : goal.overflow_add-place
overflow_add-place g c = omega (arith, few c.args.size c.args.level c.args.i c.requires.lowest c.requires.block (omega arith), c.digests_of.ensures.few)

pub used_places-requires-clause-block : goal.used_places-requires-clause-block
used_places-requires-clause-block g c = omega (arith, few c.args.size c.args.level c.args.i c.requires.lowest c.requires.block (omega arith))

pub offset_bounds-tree-first : goal.offset_bounds-tree-first
offset_bounds-tree-first g c = omega (arith, few c.args.size c.args.level c.args.i c.requires.lowest c.requires.block (omega arith), c.digests_of.ensures.few)

pub bounds-tree-first : goal.bounds-tree-first
bounds-tree-first g c = first_there c.args.size c.args.level c.args.i c.digests_of.result c.used_places.result 0 (length c.args.tree.now) c.requires.lowest c.requires.highest c.requires.block c.requires.count c.digests_of.ensures.value c.used_places.ensures

pub read-requires : goal.read-requires
read-requires g c = c.requires.within ((c.digests_of.result + 256 * c.args.i) / 256) 0 (first_there c.args.size c.args.level c.args.i c.digests_of.result c.used_places.result 0 (length c.args.tree.now) c.requires.lowest c.requires.highest c.requires.block c.requires.count c.digests_of.ensures.value c.used_places.ensures)

pub overflow_add-first : goal.overflow_add-first
overflow_add-first g c = omega (arith, few c.args.size c.args.level c.args.i c.requires.lowest c.requires.block (omega arith), c.digests_of.ensures.few)

pub offset_bounds-tree-first-then-head-used : goal.offset_bounds-tree-first-then-head-used
offset_bounds-tree-first-then-head-used g c = omega (arith, few c.args.size c.args.level c.args.i c.requires.lowest c.requires.block (omega arith), c.digests_of.ensures.few)

pub bounds-tree-first-then-head-used : goal.bounds-tree-first-then-head-used
bounds-tree-first-then-head-used g c = next_there c.args.size c.args.level c.args.i c.digests_of.result c.used_places.result c.min-head.result (length c.args.tree.now) c.requires.lowest c.requires.highest c.requires.block c.requires.count c.digests_of.ensures.value c.used_places.ensures c.min-head.ensures c.if-head-used.true

pub read-requires-then-head-used : goal.read-requires-then-head-used
read-requires-then-head-used g c =
    let place : ℕ = (c.digests_of.result + 256 * c.args.i) / 256 + 1 in
    let here = c.requires.within place 0 (next_there c.args.size c.args.level c.args.i c.digests_of.result c.used_places.result c.min-head.result (length c.args.tree.now) c.requires.lowest c.requires.highest c.requires.block c.requires.count c.digests_of.ensures.value c.used_places.ensures c.min-head.ensures c.if-head-used.true) in
    rw (ap (λ (x : Stored). x.geometry.blocks) c.in_ok-read.ensures.rest) here

pub returns-in_ok-read-2-clause-now : goal.returns-in_ok-read-2-clause-now
returns-in_ok-read-2-clause-now g c =
    let s = g.S.Store.seen c.args.store.now in
    let mid = g.S.Store.seen c.read.new.self in
    let tree = c.args.tree.now in
    let at : ℕ = (c.digests_of.result + 256 * c.args.i) / 256 in
    let x = c.read.new.into in
    let y = c.read-then-head-used.new.into in
    sees_given s _ _ c.are_whole.ensures
    (sees_two s (λ d. x ≡ block (now_of d) (block_at s.geometry (get_or tree at 0))) (λ d. y ≡ block (now_of d) (block_at s.geometry (get_or tree (at + 1) 0))) _
    (λ d p q whole. compact_two c.args.size c.args.level c.args.i c.digests_of.result c.used_places.result c.min-head.result (length tree) c.requires.lowest c.requires.highest c.requires.block c.requires.count c.digests_of.ensures.value c.used_places.ensures c.min-head.ensures
    _ whole (as_long s.geometry d tree) x c.copy_part.new.into (p ∙ block_is s.geometry d tree at (first_there c.args.size c.args.level c.args.i c.digests_of.result c.used_places.result 0 (length c.args.tree.now) c.requires.lowest c.requires.highest c.requires.block c.requires.count c.digests_of.ensures.value c.used_places.ensures)) c.copy_part.ensures y c.copy_part-then-head-used.new.into c.if-head-used.true (q ∙ block_is s.geometry d tree (at + 1) (next_there c.args.size c.args.level c.args.i c.digests_of.result c.used_places.result c.min-head.result (length c.args.tree.now) c.requires.lowest c.requires.highest c.requires.block c.requires.count c.digests_of.ensures.value c.used_places.ensures c.min-head.ensures c.if-head-used.true)) c.copy_part-then-head-used.ensures)
    (one_block s x (get_or tree at 0) (c.requires.blobs at 0 (first_there c.args.size c.args.level c.args.i c.digests_of.result c.used_places.result 0 (length c.args.tree.now) c.requires.lowest c.requires.highest c.requires.block c.requires.count c.digests_of.ensures.value c.used_places.ensures)) c.in_ok-read.ensures.blob)
    (sees_on s mid _ (λ geometry d. y ≡ block (now_of d) (block_at geometry (get_or tree (at + 1) 0))) c.in_ok-read.ensures.rest (one_block mid y (get_or tree (at + 1) 0) (subst (λ (z : Stored). Contains (blocks_in z.placed) (get_or tree (at + 1) 0)) (sym c.in_ok-read.ensures.rest) (c.requires.blobs (at + 1) 0 (next_there c.args.size c.args.level c.args.i c.digests_of.result c.used_places.result c.min-head.result (length c.args.tree.now) c.requires.lowest c.requires.highest c.requires.block c.requires.count c.digests_of.ensures.value c.used_places.ensures c.min-head.ensures c.if-head-used.true))) c.in_ok-read-2.ensures.blob)))

pub returns-else-head-used-clause-now : goal.returns-else-head-used-clause-now
returns-else-head-used-clause-now g c =
    let s = g.S.Store.seen c.args.store.now in
    let tree = c.args.tree.now in
    let at : ℕ = (c.digests_of.result + 256 * c.args.i) / 256 in
    let x = c.read.new.into in
    sees_given s _ _ c.are_whole.ensures
    (sees_so s (λ d. x ≡ block (now_of d) (block_at s.geometry (get_or tree at 0))) _
    (λ d p whole. compact_one c.args.size c.args.level c.args.i c.digests_of.result c.used_places.result c.min-head.result (length tree) c.requires.lowest c.requires.highest c.requires.block c.requires.count c.digests_of.ensures.value c.used_places.ensures c.min-head.ensures
    _ whole (as_long s.geometry d tree) x c.copy_part.new.into (p ∙ block_is s.geometry d tree at (first_there c.args.size c.args.level c.args.i c.digests_of.result c.used_places.result 0 (length c.args.tree.now) c.requires.lowest c.requires.highest c.requires.block c.requires.count c.digests_of.ensures.value c.used_places.ensures)) c.copy_part.ensures c.if-head-used.false)
    (one_block s x (get_or tree at 0) (c.requires.blobs at 0 (first_there c.args.size c.args.level c.args.i c.digests_of.result c.used_places.result 0 (length c.args.tree.now) c.requires.lowest c.requires.highest c.requires.block c.requires.count c.digests_of.ensures.value c.used_places.ensures)) c.in_ok-read.ensures.blob))
