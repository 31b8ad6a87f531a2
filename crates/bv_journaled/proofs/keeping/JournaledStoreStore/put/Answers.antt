use Rattle.std.proofs.Common.{true, ap, sym, subst}
use Rattle.spec_disk.specs.declared.event.Event.TheVariants.{Write}
use Rattle.spec_record.specs.Geometry.{block_at}
use Rattle.bv_device.specs.Plan.{a_write}
use Rattle.bv_store.specs.Stored.{Grows}
use Rattle.bv_journaled.specs.Standing.{Standing, stored_of, IsHeld, Both}
use Rattle.bv_journaled.proofs.CallRows.{PutGrows, put_grows, put_both}
use Rattle.bv_journaled.proofs.FailedLemmas.{shown_failed, one_short}
use Rattle.bv_journaled.proofs.RowLemmas.{run_counts, run_calls, on_ok}
use Rattle.bv_journaled.proofs.keeping.JournaledStoreStore.put.Goals as goal

pub returns-clause-counts : goal.returns-clause-counts
returns-clause-counts g c =
    let s = c.args.self.now in
    let rest = c.write_data.ensures.rest in
    run_counts c.write_data.result (a_write (block_at s.meta.geometry c.args.at) c.args.from.now) s c.write_data.new.self c.write_data.ensures.standing (ap (λ (x : Standing). x.meta.geometry) rest) (ap (λ (x : Standing). x.opened) rest) c.write_data.ensures.performs

pub returns-clause-one : goal.returns-clause-one
returns-clause-one g c =
    let s = c.args.self.now in
    let rest = c.write_data.ensures.rest in
    on_ok c.write_data.result _ (λ v ok. run_calls c.write_data.result (a_write (block_at s.meta.geometry c.args.at) c.args.from.now) s c.write_data.new.self c.write_data.ensures.standing (ap (λ (x : Standing). x.meta.geometry) rest) (ap (λ (x : Standing). x.opened) rest) c.write_data.ensures.performs v ok)

pub returns-clause-grows : goal.returns-clause-grows
returns-clause-grows g c =
    let s = c.args.self.now in
    subst (λ (n : Standing). Grows (stored_of s).told (stored_of n).told (PutGrows s c.write_data.ensures.standing c.args.at c.args.from.now c.requires.free c.write_data.result)) (sym c.write_data.ensures.rest)
    (put_grows s c.write_data.ensures.standing c.args.at c.args.from.now c.requires.free c.write_data.result c.write_data.new.self.device c.write_data.ensures.performs)

pub returns-clause-shown : goal.returns-clause-shown
returns-clause-shown g c =
    let s = c.args.self.now in
    let rest = c.write_data.ensures.rest in
    shown_failed c.write_data.result (a_write (block_at s.meta.geometry c.args.at) c.args.from.now) s c.write_data.new.self c.write_data.ensures.standing (ap (λ (x : Standing). x.meta.geometry) rest) (ap (λ (x : Standing). x.opened) rest) c.write_data.ensures.performs
    (λ d a b told rests. one_short s (Write (block_at s.meta.geometry c.args.at) c.args.from.now true) d a b rests)

pub returns-clause-both : goal.returns-clause-both
returns-clause-both g c =
    let s = c.args.self.now in
    on_ok c.write_data.result _ (λ v ok a b both.
    subst (λ (n : Standing). Both n a b) (sym c.write_data.ensures.rest)
    (put_both s c.write_data.ensures.standing c.args.at c.args.from.now c.requires.free c.write_data.result v c.write_data.new.self.device c.write_data.ensures.performs ok a b both))

pub returns-clause-held : goal.returns-clause-held
returns-clause-held g c b held = subst (λ (n : Standing). IsHeld n b) c.write_data.ensures.rest held
