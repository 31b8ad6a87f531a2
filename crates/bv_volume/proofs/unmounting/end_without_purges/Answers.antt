use Rattle.std.proofs.Common.{[]}
use Rattle.bv_volume.proofs.Joins.{ends_lasts}
use Rattle.bv_volume.proofs.SessionCalls.{data_join}
use Rattle.bv_volume.proofs.unmounting.end_without_purges.Goals as goal

pub returns-in-None-clause-lasts : goal.returns-in-None-clause-lasts
returns-in-None-clause-lasts g c =
    ends_lasts (g.S.Store.seen c.args.store.now) (g.S.Store.seen c.sync_store.new.store) (g.S.Store.seen c.checkpoint_store.new.store) (g.S.Store.both c.args.store.now) (g.S.Store.both c.sync_store.new.store) (g.S.Store.both c.checkpoint_store.new.store) (λ m. []) c.checkpoint_store.result c.in-None.ensures.lasts c.checkpoint_store.ensures.ends

pub returns-in-None-clause-same : goal.returns-in-None-clause-same
returns-in-None-clause-same g c =
    let s = g.S.Store.seen c.args.store.now in
    let m = g.S.Store.seen c.sync_store.new.store in
    data_join s.geometry m.geometry s.told m.told (g.S.Store.seen c.checkpoint_store.new.store).told c.in-None.ensures.lasts.moves.geometry c.in-None.ensures.same c.checkpoint_store.ensures.same
