use Rattle.std.proofs.Common.{◌∷◌, [], Option, map, ap, ◌∙◌, subst}
use Rattle.std.proofs.lemmas.List.{map-append}
use Rattle.std.specs.Prelude.{IfSome}
use Rattle.bv_store.specs.declared.publication.Publication.{Publication}
use Rattle.bv_txn.specs.Changes.{change_of}
use Rattle.bv_txn.specs.Metas.{metadata_of}
use Rattle.bv_journaled.specs.Publishing.{CanTake}
use Rattle.bv_journaled.proofs.MakingLemmas.{purges_made}
use Rattle.bv_journaled.proofs.PublishedLemmas.{published_made}
use Rattle.bv_journaled.proofs.preparing.changes_for.Goals as goal

pub returns-in-None : goal.returns-in-None
returns-in-None c =
    purges_made (metadata_of c.args.meta.now) c.args.purged.now c.args.published.now
    (map change_of c.in_ok-changes.changes.items) c.requires.formed c.in-None.is c.in_ok-changes.ensures

pub returns-in_ok-push-in-Some : goal.returns-in_ok-push-in-Some
returns-in_ok-push-in-Some c =
    let can : CanTake c.args.meta.now c.in-Some.publication =
    subst (λ (o : Option Publication). IfSome o (CanTake c.args.meta.now)) c.in-Some.is c.requires.fits in
    published_made c.args.meta.now c.args.purged.now c.args.published.now c.in-Some.publication
    (map change_of c.in_ok-changes.changes.items) (map change_of c.push.new.self.items)
    (change_of c.in_ok-change-in-Some.change)
    c.requires.lawful c.requires.formed can c.in-Some.is c.in_ok-changes.ensures c.in_ok-change-in-Some.ensures
    (ap (map change_of) c.in_ok-push-in-Some.ensures.items
    ∙ map-append change_of c.in_ok-changes.changes.items (c.in_ok-change-in-Some.change ∷ []))
