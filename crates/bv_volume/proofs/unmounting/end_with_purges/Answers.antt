use Rattle.bv_store.specs.Stored.{entry_changes, placed_after}
use Rattle.bv_volume.proofs.Joins.{ends_lasts}
use Rattle.bv_volume.proofs.SessionCalls.{data_join}
use Rattle.bv_volume.proofs.Unmounts.{placed_on}
use Rattle.bv_volume.proofs.unmounting.end_with_purges.Goals as goal

pub returns-in-None-clause-lasts : goal.returns-in-None-clause-lasts
returns-in-None-clause-lasts g c =
    let e = c.requires.planned.0 in
    rw (c.requires.planned.1)
    (ends_lasts (g.S.Store.seen c.args.store.now) (g.S.Store.seen c.commit_and_sync.new.store) (g.S.Store.seen c.checkpoint_store.new.store) (g.S.Store.both c.args.store.now) (g.S.Store.both c.commit_and_sync.new.store) (g.S.Store.both c.checkpoint_store.new.store) (λ m. entry_changes m e) c.checkpoint_store.result (rw (c.requires.planned.1) at c.in-None.ensures.lasts) c.checkpoint_store.ensures.ends)

pub returns-in-None-clause-same : goal.returns-in-None-clause-same
returns-in-None-clause-same g c =
    let s = g.S.Store.seen c.args.store.now in
    let m = g.S.Store.seen c.commit_and_sync.new.store in
    let lasts = rw (c.requires.planned.1) at c.in-None.ensures.lasts in
    data_join s.geometry m.geometry s.told m.told (g.S.Store.seen c.checkpoint_store.new.store).told lasts.moves.geometry c.in-None.ensures.same c.checkpoint_store.ensures.same

pub returns-in-None-clause-either : goal.returns-in-None-clause-either
returns-in-None-clause-either g c =
    let s = g.S.Store.seen c.args.store.now in
    let m = g.S.Store.seen c.commit_and_sync.new.store in
    let w = g.S.Store.seen c.checkpoint_store.new.store in
    let either = rw (c.requires.planned.1) at c.in-None.ensures.either in
    rw (c.requires.planned.1) (placed_on s.placed m.placed w.placed (placed_after s.placed c.requires.planned.0) c.checkpoint_store.ensures.placed either)
