use Rattle.std.proofs.Common.{◌≡◌, ap, sym, ◌∙◌, subst, arith, length}
use Rattle.std.specs.List.Sorted.{IsStrictlyIncreasing}
use Rattle.spec_record.specs.declared.geometry.Geometry.{Geometry}
use Rattle.spec_record.specs.declared.extent.Extent.{Extent}
use Rattle.spec_record.specs.Node.{nodes_for}
use Rattle.bv_node.specs.Runs.{runs}
use Rattle.bv_store.specs.Stored.{nodes_of}
use Rattle.bv_txn.specs.Metas.{metadata_of}
use Rattle.bv_journaled.proofs.ExtentLemmas.{rises_increasing}
use Rattle.bv_journaled.proofs.PublishedLemmas.{publishes_is}
use Rattle.bv_journaled.proofs.publishing.publication_of.Goals as goal

pub overflow_cast-version : goal.overflow_cast-version
overflow_cast-version c = let most = c.geometry-version.ensures.limits.version.to_high in omega (arith, most)

pub runs_of-requires : goal.runs_of-requires
runs_of-requires c =
    subst IsStrictlyIncreasing (sym c.deref.ensures.value)
    (rises_increasing c.args.published.now.blocks.items 1 c.args.meta.now.geometry.blocks c.requires.fits.can.rising)

pub free_nodes-requires-clause-room : goal.free_nodes-requires-clause-room
free_nodes-requires-clause-room c =
    let count : c.nodes_for-count.result ≡ nodes_of c.args.published.now =
    c.nodes_for-count.ensures ∙ ap nodes_for (c.len.ensures ∙ c.in_ok-extents.extents.ok.0
    ∙ ap (length {A = Extent}) (c.in_ok-extents.ensures.items ∙ ap runs c.deref.ensures.value)) in
    omega (arith, count, c.requires.fits.room)

pub returns : goal.returns
returns c =
    publishes_is (metadata_of c.args.meta.now) c.args.published.now c.geometry-version.result.version
    c.nodes_for-count.result c.in_ok-extents.extents.items c.in_ok-nodes.nodes.items
    (ap (λ (g : Geometry). g.version) c.geometry-version.ensures.value ∙ sym c.requires.fits.can.version)
    (c.in_ok-extents.ensures.items ∙ ap runs c.deref.ensures.value)
    (c.nodes_for-count.ensures ∙ ap nodes_for (c.len.ensures ∙ c.in_ok-extents.extents.ok.0))
    c.in_ok-nodes.ensures
