use Rattle.bv_volume.proofs.Counting.{rises_to, grows_so}
use Rattle.bv_volume.proofs.Joins.{map_now}
use Rattle.bv_volume.proofs.device.put_store.Goals as goal

pub returns-in-Ok-clause-puts : goal.returns-in-Ok-clause-puts
returns-in-Ok-clause-puts g c =
    let e = c.in-Ok.ensures in
    record {
      moves = record { geometry = e.counts.geometry; began = e.counts.began; calls = e.counts.calls; faults = (e.counts.faults.later, tt) };
      grows = grows_so _ _ _ _ (λ d more p. ((_, _, p.0), p.1)) e.grows;
      both = λ none. e.both;
      shown = λ f failed. cc;
      number = e.number;
    }

pub returns-in-Ok-clause-wrote : goal.returns-in-Ok-clause-wrote
returns-in-Ok-clause-wrote g c = λ none. grows_so _ _ _ _ (λ d more p. p.0) c.in-Ok.ensures.grows

pub returns-in-Ok-clause-apart : goal.returns-in-Ok-clause-apart
returns-in-Ok-clause-apart g c = grows_so _ _ _ _ (λ d more p. p.2) c.in-Ok.ensures.grows

pub returns-in-Err-clause-apart : goal.returns-in-Err-clause-apart
returns-in-Err-clause-apart g c = grows_so _ _ _ _ (λ d more p. p.2) c.in-Err.ensures.grows

pub returns-in-Err-clause-puts : goal.returns-in-Err-clause-puts
returns-in-Err-clause-puts g c =
    let e = c.in-Err.ensures in
    record {
      moves = record { geometry = e.counts.geometry; began = e.counts.began; calls = e.counts.calls; faults = (e.counts.faults.later, rises_to _ _ _ e.counts.faults.later e.counts.faults.failed (rw c.faults.ensures at c.faults.type_inv) c.faults.ensures) };
      grows = grows_so _ _ _ _ (λ d more p. (tt, p.1)) e.grows;
      both = λ none. cc;
      shown = λ f failed a b both. map_now (g.S.Store.seen c.args.store.now) (g.S.Store.seen c.put.new.self) b e.counts.geometry e.placed (e.shown a b both);
      number = e.number;
    }
