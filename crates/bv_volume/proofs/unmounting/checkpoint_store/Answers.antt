use Rattle.bv_volume.proofs.Counting.{rises_to, grows_so}
use Rattle.bv_volume.proofs.Joins.{map_now}
use Rattle.bv_volume.proofs.unmounting.checkpoint_store.Goals as goal

pub returns-in-Ok-clause-ends : goal.returns-in-Ok-clause-ends
returns-in-Ok-clause-ends g c =
    let e = c.in-Ok.ensures in
    record {
      moves = record { geometry = e.counts.geometry; began = e.counts.began; calls = e.counts.calls; faults = (e.counts.faults.later, tt) };
      grows = grows_so _ _ _ _ (λ d more p. (p.0, p.2)) e.grows;
      both = λ none. e.both;
      shown = λ f failed. cc;
      number = e.number;
    }

pub returns-in-Err-clause-ends : goal.returns-in-Err-clause-ends
returns-in-Err-clause-ends g c =
    let e = c.in-Err.ensures in
    record {
      moves = record { geometry = e.counts.geometry; began = e.counts.began; calls = e.counts.calls; faults = (e.counts.faults.later, rises_to _ _ _ e.counts.faults.later e.counts.faults.failed (rw c.faults.ensures at c.faults.type_inv) c.faults.ensures) };
      grows = grows_so _ _ _ _ (λ d more p. (tt, p.2)) e.grows;
      both = λ none. cc;
      shown = λ f failed b both. map_now (g.S.Store.seen c.args.store.now) (g.S.Store.seen c.checkpoint.new.self) b e.counts.geometry e.placed (e.shown b b both);
      number = e.number;
    }

pub returns-in-Ok-clause-same : goal.returns-in-Ok-clause-same
returns-in-Ok-clause-same g c = grows_so _ _ _ _ (λ d more p. p.1) c.in-Ok.ensures.grows

pub returns-in-Err-clause-same : goal.returns-in-Err-clause-same
returns-in-Err-clause-same g c = grows_so _ _ _ _ (λ d more p. p.1) c.in-Err.ensures.grows
