use Rattle.bv_journaled.proofs.ReadLemmas.{whole_since}
use Rattle.bv_journaled.proofs.keeping.JournaledStoreStore.geometry.Goals as goal

pub returns-clause-whole : goal.returns-clause-whole
returns-clause-whole g c =
    let s = c.args.self.now in
    whole_since s.meta.geometry s.opened s.device.told c.counts.ensures.whole
