use Rattle.std.proofs.Common.{◌≡◌, Option, refl}
use Rattle.bv_store.specs.Stored.{Stored, Entry}
use Rattle.bv_volume.proofs.Counting.{on_err}
use Rattle.bv_volume.proofs.preparing.plan_publication.Goals as goal

pub returns-in_err-all-clause-err : goal.returns-in_err-all-clause-err
returns-in_err-all-clause-err g c =
    let s : Stored = g.S.Store.seen c.args.store.now in
    let same : (x : Option Entry) × (s ≡ record s { planned = x }) = (s.planned, refl) in
    on_err c.from_residual.result same

pub returns-in_err-blocks-clause-err : goal.returns-in_err-blocks-clause-err
returns-in_err-blocks-clause-err g c =
    let s : Stored = g.S.Store.seen c.args.store.now in
    let same : (x : Option Entry) × (s ≡ record s { planned = x }) = (s.planned, refl) in
    on_err c.from_residual-in_err-blocks.result same
