-- What was read and added is the survey of the metadata.
use Rattle.std.proofs.Common.{ℕ, ◌*◌, List, ◌++◌, length, Bool, leb, ap, ◌∙◌, subst}
use Rattle.std.specs.Prelude.{count_by, sum_by}
use Rattle.spec_record.specs.Geometry.{bitmap_blocks}
use Rattle.spec_image.specs.Chain.{Nodes, BlobRecord}
use Rattle.spec_meta.specs.declared.survey_fault.SurveyFault.{SurveyFault}
use Rattle.spec_meta.specs.Survey.{of_each, root_counts}
use Rattle.bv_node.specs.Chains.{nodes_of}
use Rattle.bv_txn.specs.Surveys.{ArePlaced, AreDepths, orphan_fault, overlap_fault, twice_in, bit_fault}
use Rattle.bv_txn.proofs.WholeLemmas.{counts_with, blobs_are, blobs_read, whole}
use Rattle.bv_txn.proofs.survey.surveyed.Goals as goal

pub placed_nodes-requires : goal.placed_nodes-requires
placed_nodes-requires c =
    (blobs_read c.args.geometry.now c.args.base.now c.requires c.node_map-nodes.result c.node_map-nodes.ensures c.deref.result.now (c.deref.ensures.value ∙ c.in_ok-blobs.ensures.blobs)).nodes

pub depths_of-requires-clause-extents : goal.depths_of-requires-clause-extents
depths_of-requires-clause-extents c =
    (blobs_read c.args.geometry.now c.args.base.now c.requires c.node_map-nodes.result c.node_map-nodes.ensures c.deref-3.result.now (c.deref-3.ensures.value ∙ c.in_ok-blobs.ensures.blobs)).extents

pub depths_of-requires-clause-few : goal.depths_of-requires-clause-few
depths_of-requires-clause-few c =
    (blobs_read c.args.geometry.now c.args.base.now c.requires c.node_map-nodes.result c.node_map-nodes.ensures c.deref-3.result.now (c.deref-3.ensures.value ∙ c.in_ok-blobs.ensures.blobs)).extents_few

pub add_counts-requires : goal.add_counts-requires
add_counts-requires c =
    (blobs_read c.args.geometry.now c.args.base.now c.requires c.node_map-nodes.result c.node_map-nodes.ensures c.deref-7.result.now (c.deref-7.ensures.value ∙ c.in_ok-blobs.ensures.blobs)).nodes_few

pub returns-clause-blobs : goal.returns-clause-blobs
returns-clause-blobs c =
    blobs_are c.args.geometry.now c.args.base.now c.requires c.node_map-nodes.result c.node_map-nodes.ensures c.in_ok-blobs.field-0.blobs.items c.in_ok-blobs.ensures.blobs

pub returns-clause-faults : goal.returns-clause-faults
returns-clause-faults c =
    let g = c.args.geometry.now in
    let base = c.args.base.now in
    let ns : Nodes = nodes_of c.node_map-nodes.result g.version in
    let blobs : List BlobRecord = c.in_ok-blobs.field-0.blobs.items in
    let placed : List Bool = c.in_ok-placed.placed.items in
    let depths : List ℕ = c.in_ok-depths.depths.items in
    let f0 : List SurveyFault = c.in_ok-blobs.field-0.faults.items in
    let f1 : List SurveyFault = c.add_orphans.new.faults.items in
    let f2 : List SurveyFault = c.add_overlaps.new.faults.items in
    let f3 : List SurveyFault = c.add_twice.new.faults.items in
    let f4 : List SurveyFault = c.add_bits.new.faults.items in
    let e1 = c.in_ok-add_orphans.ensures ∙ ap (λ (xs : List Bool). f0 ++ of_each (length xs) (orphan_fault ns xs)) c.deref-2.ensures.value in
    let e2 = c.in_ok-add_overlaps.ensures ∙ ap (λ (xs : List ℕ). f1 ++ of_each (length xs) (overlap_fault xs)) c.deref-4.ensures.value in
    let e3 = c.in_ok-add_twice.ensures ∙ ap (λ (bs : List BlobRecord). f2 ++ twice_in (root_counts bs)) c.deref-5.ensures.value in
    let e4 = c.in_ok-add_bits.ensures ∙ ap (λ (xs : List ℕ). f3 ++ of_each (65536 * bitmap_blocks g) (bit_fault base xs)) c.deref-6.ensures.value in
    let e5 = c.in_ok-add_counts.ensures
    ∙ ap (λ (bs : List BlobRecord). f4 ++ counts_with c.counts_of-said.result (length bs) (count_by (leb 1) c.deref-8.result.now) (sum_by (λ b. length b.nodes) bs)) c.deref-7.ensures.value
    ∙ ap (λ (xs : List ℕ). f4 ++ counts_with c.counts_of-said.result (length blobs) (count_by (leb 1) xs) (sum_by (λ b. length b.nodes) blobs)) c.deref-8.ensures.value
    ∙ ap (λ said. f4 ++ counts_with said (length blobs) (count_by (leb 1) depths) (sum_by (λ b. length b.nodes) blobs)) c.counts_of-said.ensures in
    whole g base c.requires c.node_map-nodes.result c.node_map-nodes.ensures blobs c.in_ok-blobs.ensures.blobs placed depths f0 f1 f2 f3 f4 c.add_counts.new.faults.items
    c.in_ok-placed.ensures.count (subst (λ (bs : List BlobRecord). ArePlaced bs placed) c.deref.ensures.value c.in_ok-placed.ensures.placed)
    c.in_ok-depths.ensures.count (subst (λ (bs : List BlobRecord). AreDepths bs depths) c.deref-3.ensures.value c.in_ok-depths.ensures.depths)
    c.in_ok-blobs.ensures.faults e1 e2 e3 e4 e5
