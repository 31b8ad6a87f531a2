use Rattle.std.proofs.Common.{sym, subst}
use Rattle.std.specs.Prelude.{IfSome}
use Rattle.bv_journaled.specs.declared.prepared.Prepared.{Prepared}
use Rattle.bv_journaled.specs.Publishing.{CanTake}
use Rattle.bv_journaled.specs.Standing.{Standing, IsPrepared}
use Rattle.bv_journaled.proofs.MakingLemmas.{can_take}
use Rattle.bv_journaled.proofs.PreparedLemmas.{prepared_is}
use Rattle.bv_journaled.proofs.store.JournaledStore.prepare.Goals as goal

pub changes_for-requires-clause-fits : goal.changes_for-requires-clause-fits
changes_for-requires-clause-fits g c =
    subst (λ (s : Standing). IfSome c.args.published (CanTake s.meta)) (sym c.self.view_is)
    (can_take c.args.self.now (record { purged = c.args.purged.now; published = c.args.published })
    c.requires.fits c.requires.nodes c.requires.free)

pub returns-clause-fits : goal.returns-clause-fits
returns-clause-fits g c =
    let p : Prepared = record {
      purged = c.in_ok-purged.purged;
      published = c.args.published;
      changes = c.in_ok-changes.changes;
      entry = c.in_ok-entry.entry;
      blocks = c.in_ok-entry.blocks;
    } in
    subst (λ (s : Standing). IsPrepared s.meta.geometry s.meta.blocks s.cursor.number p) c.self.view_is
    (prepared_is c.self.inside.meta.geometry c.self.inside.meta.blocks c.self.inside.ring.number c.next.result p
    c.args.purged.now c.deref.result.now c.next.ensures.exact c.in_ok-purged.ensures.items c.deref.ensures.value
    c.in_ok-changes.ensures c.in_ok-entry.ensures.plans c.in_ok-entry.ensures.whole c.in_ok-entry.ensures.blocks)
