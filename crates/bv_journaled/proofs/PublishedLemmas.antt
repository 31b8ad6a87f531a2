-- A publication in free nodes, behind purges, makes what was asked for.
use Rattle.std.proofs.Common.{◌≡◌, ℕ, List, [], ◌∷◌, ◌++◌, length, true, Option, Some, ap, sym, ◌∙◌, subst}
use Rattle.spec_tree.specs.declared.Digest.{Digest}
use Rattle.spec_record.specs.declared.extent.Extent.{Extent}
use Rattle.spec_record.specs.Geometry.{IsGeometry}
use Rattle.spec_record.specs.Node.{nodes_for}
use Rattle.spec_image.specs.Metadata.{Metadata}
use Rattle.spec_image.specs.WellFormed.{is_well_formed}
use Rattle.spec_meta.specs.Change.{Change, Publish, after_all}
use Rattle.spec_meta.specs.Fits.{FitsPublish}
use Rattle.bv_node.specs.Runs.{runs}
use Rattle.bv_store.specs.declared.publication.Publication.{Publication}
use Rattle.bv_txn.specs.Metas.{MetaBlocks, metadata_of}
use Rattle.bv_journaled.specs.Preparing.{Makes}
use Rattle.bv_journaled.specs.Publishing.{AreFree, CanTake, Publishes, record_of}
use Rattle.bv_journaled.specs.Purging.{purge_changes}
use Rattle.bv_journaled.proofs.ExtentLemmas.{runs_blocks}
use Rattle.bv_journaled.proofs.MakingLemmas.{bits_enough, publish_makes}
use Rattle.bv_journaled.proofs.PublishLemmas.{publish_fits}

-- the change of these extents and nodes publishes the blob
pub publishes_is : (m : Metadata) (p : Publication) (version n : ℕ) (es : List Extent) (ks : List ℕ) → version ≡ p.blob.version
    → es ≡ runs p.blocks.items → n ≡ nodes_for (length es) → AreFree m n ks
    → Publishes m p (Publish (record { root = p.root; size = p.blob.size; version = version; extents = es; nodes = ks }))
publishes_is m p version n es ks same_version same count free = record {
  nodes = ks;
  free = subst (λ (k : ℕ). AreFree m k ks) (count ∙ ap (λ (x : List Extent). nodes_for (length x)) same) free;
  is = λ i. Publish (record { root = p.root; size = p.blob.size; version = same_version i; extents = same i; nodes = ks });
}

-- behind purges it makes what was asked for
pub published_made : (m : MetaBlocks) (roots : List Digest) (o : Option Publication) (p : Publication) (cs new : List Change)
    (c : Change) → IsGeometry m.geometry → is_well_formed (metadata_of m) ≡ true → CanTake m p → o ≡ Some p
    → cs ≡ purge_changes (metadata_of m) roots → Publishes (metadata_of m) p c → new ≡ cs ++ c ∷ []
    → Makes (metadata_of m) (record { purged = roots; published = o }) new
published_made m roots o p cs new c lawful formed can some first made all =
    let at : Metadata = metadata_of m in
    let ks : List ℕ = made.nodes in
    let fit : FitsPublish (after_all at (purge_changes at roots)) (record_of p ks) =
    publish_fits at roots p ks formed lawful can.can can.free (bits_enough m.geometry) made.free in
    let makes : Makes at (record { purged = roots; published = Some p })
    (purge_changes at roots ++ Publish (record_of p ks) ∷ []) =
    publish_makes at roots p ks formed fit (runs_blocks p.blocks.items 1 m.geometry.blocks can.can.rising) in
    let is : new ≡ purge_changes at roots ++ Publish (record_of p ks) ∷ [] =
    all ∙ (λ i. first i ++ made.is i ∷ []) in
    subst (λ (x : Option Publication). Makes at (record { purged = roots; published = x }) new) (sym some)
    (subst (λ (l : List Change). Makes at (record { purged = roots; published = Some p }) l) (sym is) makes)
