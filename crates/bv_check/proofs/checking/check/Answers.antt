use Rattle.std.proofs.Common.{◌≡◌, ap, sym, subst, arith}
use Rattle.spec_record.specs.declared.geometry.Geometry.{Geometry}
use Rattle.bv_txn.specs.Metas.{metadata_of}
use Rattle.bv_check.specs.Checks.{AreStored}
use Rattle.bv_check.proofs.StoredLemmas.{blobs_are_stored, stored_are_small, blobs_are_few, few_nodes}
use Rattle.bv_check.proofs.checking.check.Goals as goal

pub damaged-requires-clause-stored : goal.damaged-requires-clause-stored
damaged-requires-clause-stored g c =
    let o = c.in_ok-opening.opening in
    subst (AreStored o.superblock.geometry.blocks) (sym c.deref.ensures.value)
    (blobs_are_stored c.in_ok-survey.survey.blobs.items (metadata_of o.meta) o.superblock.geometry.blocks c.in_ok-survey.ensures.blobs (ap (λ (g : Geometry). g.blocks) o.lawful.geometry))

pub report_of-requires-clause-small : goal.report_of-requires-clause-small
report_of-requires-clause-small g c =
    let o = c.in_ok-opening.opening in
    stored_are_small o.superblock.geometry.blocks c.in_ok-survey.survey.blobs.items
    (blobs_are_stored c.in_ok-survey.survey.blobs.items (metadata_of o.meta) o.superblock.geometry.blocks c.in_ok-survey.ensures.blobs (ap (λ (g : Geometry). g.blocks) o.lawful.geometry))

pub report_of-requires-clause-few : goal.report_of-requires-clause-few
report_of-requires-clause-few g c =
    let o = c.in_ok-opening.opening in
    let same : o.meta.geometry.nodes ≡ o.superblock.geometry.nodes = ap (λ (g : Geometry). g.nodes) o.lawful.geometry in
    omega (arith, blobs_are_few c.in_ok-survey.survey.blobs.items (metadata_of o.meta) c.in_ok-survey.ensures.blobs, same, few_nodes o.superblock.geometry o.lawful.limits)
