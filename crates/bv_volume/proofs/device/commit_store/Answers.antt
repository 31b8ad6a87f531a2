use Rattle.bv_volume.proofs.Counting.{rises_to, grows_so}
use Rattle.bv_volume.proofs.Joins.{commit_enters, commit_fails, map_now}
use Rattle.bv_volume.proofs.device.commit_store.Goals as goal

pub returns-in-Ok-clause-enters : goal.returns-in-Ok-clause-enters
returns-in-Ok-clause-enters g c = let e = c.in-Ok.ensures in
    commit_enters (g.S.Store.seen c.args.store.now) (g.S.Store.seen c.commit.new.self) (g.S.Store.both c.args.store.now) (g.S.Store.both c.commit.new.self) (g.S.Store.seen c.args.store.now).planned e.counts e.grows e.both e.number

pub returns-in-Ok-clause-same : goal.returns-in-Ok-clause-same
returns-in-Ok-clause-same g c = grows_so _ _ _ _ (λ d more p. p.0) c.in-Ok.ensures.grows

pub returns-in-Err-clause-same : goal.returns-in-Err-clause-same
returns-in-Err-clause-same g c = grows_so _ _ _ _ (λ d more p. p.0) c.in-Err.ensures.grows

pub returns-in-Err-clause-enters : goal.returns-in-Err-clause-enters
returns-in-Err-clause-enters g c = let e = c.in-Err.ensures in
    commit_fails (g.S.Store.seen c.args.store.now) (g.S.Store.seen c.commit.new.self) (g.S.Store.both c.args.store.now) (g.S.Store.both c.commit.new.self) (g.S.Store.seen c.args.store.now).planned c.faults.result e.counts e.grows (rises_to _ _ _ e.counts.faults.later e.counts.faults.failed (rw c.faults.ensures at c.faults.type_inv) c.faults.ensures)
    (λ a b both. map_now (g.S.Store.seen c.args.store.now) (g.S.Store.seen c.commit.new.self) b e.counts.geometry e.kept (e.shown a b both))
