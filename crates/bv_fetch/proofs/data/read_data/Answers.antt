use Rattle.std.proofs.Common.{◌≡◌, ℕ, ◌+◌, ◌*◌, ◌<◌, ◌++◌, take, get_or, length, sym, subst, ◌∙◌, arith}
use Rattle.std.specs.Prelude.{Contains}
use Rattle.spec_disk.specs.Disk.{block}
use Rattle.spec_record.specs.Geometry.{block_at}
use Rattle.bv_device.specs.Told.{now_of}
use Rattle.bv_store.specs.Stored.{Stored, blocks_in, blocks_on}
use Rattle.bv_fetch.proofs.Sees.{sees_given, sees_same, sees_so, sees_two, stays_of, stays_then}
use Rattle.bv_fetch.proofs.Steps.{data_step}
use Rattle.bv_fetch.proofs.Wholes.{data-all}
use Rattle.bv_fetch.proofs.data.read_data.Goals as goal

pub add_piece-requires-clause-blob : goal.add_piece-requires-clause-blob
add_piece-requires-clause-blob g c =
    let place : ℕ = 8 * c.args.window + c.loop-k.k in
    let within : place < length c.args.content.now = omega (arith, c.requires.count, c.requires.window, c.loop-k-test.true, c.div_ceil-k-end.ensures, c.window_bytes-bytes.ensures) in
    subst (λ (x : Stored). Contains (blocks_in x.placed) (get_or c.args.content.now place 0)) (sym c.loop-k.invariant.stays.same) (c.requires.blobs place 0 within)

pub loop-k-preserved : goal.loop-k-preserved
loop-k-preserved g c =
    let old = c.args.store.now in
    let mid = c.loop-k.store in
    let new = c.add_piece.new.store in
    let s = g.S.Store.seen old in
    let inv = c.loop-k.invariant in
    let k = c.loop-k.k in
    let at : ℕ = get_or c.args.content.now (8 * c.args.window + k) 0 in
    let count = c.min-count.result in
    let low : 8192 * k < c.window_bytes-bytes.result = omega (arith, c.loop-k-test.true, c.div_ceil-k-end.ensures) in
    record {
      stays = stays_then (g.S.Store.seen old) (g.S.Store.seen mid) (g.S.Store.seen new) (g.S.Store.both old) (g.S.Store.both mid) (g.S.Store.both new) (g.S.Store.held old) (g.S.Store.held mid) (g.S.Store.held new) inv.stays
          (stays_of (g.S.Store.seen mid) (g.S.Store.seen new) (g.S.Store.both mid) (g.S.Store.both new) (g.S.Store.held mid) (g.S.Store.held new) tt c.in_ok-add_piece.ensures.reads);
      len = omega (arith, c.in_ok-add_piece.ensures.len, inv.len, c.min-count.ensures, low);
      room = omega (arith, inv.room, c.in_ok-add_piece.ensures.room);
      now = sees_two s _ (λ d. c.add_piece.new.out.items ≡ c.loop-k.out.items ++ take count (block (now_of d) (block_at s.geometry at))) _
          (λ d p q whole. data_step s.geometry d c.args.content.now c.args.size c.args.window k c.window_bytes-bytes.result count c.loop-k.out.items c.add_piece.new.out.items c.window_bytes-bytes.ensures c.min-count.ensures low c.requires.count c.requires.window whole (p whole) q)
          inv.now
          (sees_same s (g.S.Store.seen mid) (λ geometry d. c.add_piece.new.out.items ≡ c.loop-k.out.items ++ take count (block (now_of d) (block_at geometry at))) inv.stays.same c.in_ok-add_piece.ensures.adds);
    }

pub returns-clause-now : goal.returns-clause-now
returns-clause-now g c =
    let s = g.S.Store.seen c.args.store.now in
    sees_given s _ _ c.are_whole.ensures
    (sees_so s _ _ (λ d p whole. p whole ∙ data-all c.args.size c.args.window c.loop-k.k (blocks_on s.geometry d c.args.content.now) (omega (arith, c.loop-k-test.false, c.div_ceil-k-end.ensures, c.window_bytes-bytes.ensures))) c.loop-k.invariant.now)
