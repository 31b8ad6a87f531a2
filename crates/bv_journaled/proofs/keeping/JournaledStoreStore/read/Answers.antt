use Rattle.std.proofs.Common.{sym, subst}
use Rattle.spec_record.specs.Geometry.{block_at}
use Rattle.bv_journaled.specs.Standing.{Standing, Both, placed_at}
use Rattle.bv_journaled.proofs.ReadLemmas.{read_blob, read_since, read_both}
use Rattle.bv_journaled.proofs.RowLemmas.{on_ok_from}
use Rattle.bv_journaled.proofs.keeping.JournaledStoreStore.read.Goals as goal

pub returns-clause-ok : goal.returns-clause-ok
returns-clause-ok g c =
    let s = c.args.self.now in
    on_ok_from c.read_data.result _ _ c.read_data.ensures.ok (λ h. read_since s.opened s.device.told (block_at s.meta.geometry c.args.at) c.read_data.new.into h)

pub returns-clause-blob : goal.returns-clause-blob
returns-clause-blob g c =
    let s = c.args.self.now in
    on_ok_from c.read_data.result _ _ c.read_data.ensures.ok (λ h.
    read_blob s.opened s.device.told s.meta.geometry (placed_at s.meta.geometry s.meta.blocks) c.args.at c.read_data.new.into c.read_data.ensures.standing.right h)

pub returns-clause-both : goal.returns-clause-both
returns-clause-both g c a b both =
    subst (λ (n : Standing). Both n a b) (sym c.read_data.ensures.rest) (read_both c.args.self.now c.read_data.new.self.device c.read_data.ensures.told a b both)
