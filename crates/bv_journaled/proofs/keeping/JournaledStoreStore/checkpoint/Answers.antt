use Rattle.std.proofs.Common.{◌≡◌, ap, sym, subst}
use Rattle.bv_journal.specs.Plans.{checkpoint_plan}
use Rattle.bv_ring.specs.Cursor.{info_at_cursor}
use Rattle.bv_journaled.specs.Standing.{Standing, Both}
use Rattle.bv_journaled.proofs.CallRows.{place_grows, place_both, place_settled}
use Rattle.bv_journaled.proofs.FailedLemmas.{shown_failed, place_short}
use Rattle.bv_journaled.proofs.RowLemmas.{run_counts, on_ok, on_ok_at, either}
use Rattle.bv_journaled.proofs.keeping.JournaledStoreStore.checkpoint.Goals as goal
use Rattle.bv_journaled.proofs.keeping.JournaledStoreStore.checkpoint.Goals.{After-write_in_place}
use Rattle.bv_journaled.proofs.keeping.JournaledStoreStore.checkpoint.Given.{Over}

geometry : (g : Over) (c : After-write_in_place g) → c.write_in_place.new.self.meta.geometry ≡ c.args.self.now.meta.geometry
geometry g c = either c.write_in_place.result _ _ _ c.write_in_place.ensures.ok c.write_in_place.ensures.err (λ e. ap (λ (x : Standing). x.meta.geometry) e) (λ e. ap (λ (x : Standing). x.meta.geometry) e)

opened : (g : Over) (c : After-write_in_place g) → c.write_in_place.new.self.opened ≡ c.args.self.now.opened
opened g c = either c.write_in_place.result _ _ _ c.write_in_place.ensures.ok c.write_in_place.ensures.err (λ e. ap (λ (x : Standing). x.opened) e) (λ e. ap (λ (x : Standing). x.opened) e)

pub returns-clause-counts : goal.returns-clause-counts
returns-clause-counts g c =
    let s = c.args.self.now in
    run_counts c.write_in_place.result (checkpoint_plan s.meta.geometry s.meta.blocks (info_at_cursor s.cursor)) s c.write_in_place.new.self c.write_in_place.ensures.standing (geometry g c) (opened g c) c.write_in_place.ensures.performs

pub returns-clause-grows : goal.returns-clause-grows
returns-clause-grows g c =
    place_grows c.args.self.now c.write_in_place.ensures.standing c.write_in_place.result c.write_in_place.new.self (geometry g c) (opened g c) c.write_in_place.ensures.performs

pub returns-clause-shown : goal.returns-clause-shown
returns-clause-shown g c =
    let s = c.args.self.now in
    shown_failed c.write_in_place.result (checkpoint_plan s.meta.geometry s.meta.blocks (info_at_cursor s.cursor)) s c.write_in_place.new.self c.write_in_place.ensures.standing (geometry g c) (opened g c) c.write_in_place.ensures.performs
    (λ d a b told rests. place_short s c.write_in_place.ensures.standing d a b rests)

pub returns-clause-both : goal.returns-clause-both
returns-clause-both g c =
    let s = c.args.self.now in
    on_ok c.write_in_place.result _ (λ v ok b both.
    subst (λ (n : Standing). Both n b b) (sym (on_ok_at c.write_in_place.result v _ ok c.write_in_place.ensures.ok))
    (place_both s c.write_in_place.ensures.standing c.write_in_place.result v c.write_in_place.new.self.device c.write_in_place.ensures.performs ok b b both))

pub returns-clause-settled : goal.returns-clause-settled
returns-clause-settled g c =
    on_ok c.write_in_place.result _ (λ v ok.
    place_settled c.args.self.now c.write_in_place.ensures.standing c.write_in_place.result v c.write_in_place.new.self (geometry g c) (opened g c) c.write_in_place.ensures.performs ok)
