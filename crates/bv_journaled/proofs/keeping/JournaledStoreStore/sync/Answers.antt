use Rattle.std.proofs.Common.{◌≡◌, true, ap, sym, subst}
use Rattle.spec_disk.specs.declared.event.Event.TheVariants.{Sync}
use Rattle.bv_device.specs.Plan.{a_sync}
use Rattle.bv_journaled.specs.Standing.{Standing, Both}
use Rattle.bv_journaled.proofs.CallRows.{sync_grows, sync_both}
use Rattle.bv_journaled.proofs.FailedLemmas.{shown_failed, one_short}
use Rattle.bv_journaled.proofs.RowLemmas.{run_counts, on_ok, on_ok_at, either}
use Rattle.bv_journaled.proofs.keeping.JournaledStoreStore.sync.Goals as goal
use Rattle.bv_journaled.proofs.keeping.JournaledStoreStore.sync.Goals.{After-make_last}
use Rattle.bv_journaled.proofs.keeping.JournaledStoreStore.sync.Given.{Over}

geometry : (g : Over) (c : After-make_last g) → c.make_last.new.self.meta.geometry ≡ c.args.self.now.meta.geometry
geometry g c = either c.make_last.result _ _ _ c.make_last.ensures.ok c.make_last.ensures.err (λ e. ap (λ (x : Standing). x.meta.geometry) e) (λ e. ap (λ (x : Standing). x.meta.geometry) e)

opened : (g : Over) (c : After-make_last g) → c.make_last.new.self.opened ≡ c.args.self.now.opened
opened g c = either c.make_last.result _ _ _ c.make_last.ensures.ok c.make_last.ensures.err (λ e. ap (λ (x : Standing). x.opened) e) (λ e. ap (λ (x : Standing). x.opened) e)

pub returns-clause-counts : goal.returns-clause-counts
returns-clause-counts g c =
    run_counts c.make_last.result a_sync c.args.self.now c.make_last.new.self c.make_last.ensures.standing (geometry g c) (opened g c) c.make_last.ensures.performs

pub returns-clause-grows : goal.returns-clause-grows
returns-clause-grows g c =
    sync_grows c.make_last.result c.args.self.now c.make_last.new.self c.make_last.ensures.standing (geometry g c) (opened g c) c.make_last.ensures.performs

pub returns-clause-shown : goal.returns-clause-shown
returns-clause-shown g c =
    shown_failed c.make_last.result a_sync c.args.self.now c.make_last.new.self c.make_last.ensures.standing (geometry g c) (opened g c) c.make_last.ensures.performs
    (λ d a b told rests. one_short c.args.self.now (Sync true) d a b rests)

pub returns-clause-both : goal.returns-clause-both
returns-clause-both g c =
    let s = c.args.self.now in
    on_ok c.make_last.result _ (λ v ok a b both.
    subst (λ (n : Standing). Both n b b) (sym (on_ok_at c.make_last.result v _ ok c.make_last.ensures.ok))
    (sync_both c.make_last.result v s c.make_last.new.self.device c.make_last.ensures.standing c.make_last.ensures.performs ok a b both))
