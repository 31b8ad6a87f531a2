-- A survey from its parts.
use Rattle.std.proofs.Common.{◌≡◌, ℕ, ◌+◌, ◌*◌, List, ◌++◌, length, Bool, leb, refl, ap, sym, ◌∙◌, subst}
use Rattle.std.specs.Prelude.{count_by, sum_by}
use Rattle.spec_disk.specs.Disk.{block}
use Rattle.spec_record.specs.declared.field_name.FieldName.TheVariants as names
use Rattle.spec_record.specs.declared.geometry.Geometry.{Geometry}
use Rattle.spec_record.specs.declared.superblock.Super.{Super}
use Rattle.spec_record.specs.Geometry.{bitmap_blocks, node_map_in}
use Rattle.spec_image.specs.Chain.{Nodes, BlobRecord}
use Rattle.spec_image.specs.Metadata.{Metadata}
use Rattle.spec_image.specs.WellFormed.{records_of, records_below}
use Rattle.spec_meta.specs.declared.survey_fault.SurveyFault.{SurveyFault}
use Rattle.spec_meta.specs.Blocks.{counts_in, metadata_at}
use Rattle.spec_meta.specs.Survey.{of_each, root_counts, count_fault, node_faults_of, orphans_of, overlaps_of, twice_of, bits_of, counts_of, survey_of}
use Rattle.bv_node.specs.Chains.{nodes_of}
use Rattle.bv_txn.specs.Metas.{IsLawful}
use Rattle.bv_txn.specs.Surveys.{AreDepths, ArePlaced, node_faults, orphan_fault, overlap_fault, twice_in, bit_fault}
use Rattle.bv_txn.proofs.PartLemmas.{nodes_same, orphans_are, overlaps_are, blocks_are, bits_are}
use Rattle.bv_txn.proofs.ReadLemmas.{AreRead, are_read}

-- the faults of three counts
abbrev pub counts_with : Super → ℕ → ℕ → ℕ → List SurveyFault
counts_with said blobs blocks nodes =
    count_fault names.Blobs said.blobs blobs ++ count_fault names.UsedBlocks said.used_blocks (1 + blocks)
    ++ count_fault names.UsedNodes said.used_nodes nodes

module _ (g : Geometry) (base : List (List ℕ)) (lawful : IsLawful g base) (map : List (List ℕ)) (found : map ≡ node_map_in g base) where
  abbrev m : Metadata
  m = metadata_at g base

  nodes_are : nodes_of map g.version ≡ m.nodes
  nodes_are = ap (λ (b : List (List ℕ)). nodes_of b g.version) found ∙ nodes_same g base lawful

  module _ (blobs : List BlobRecord) (read : blobs ≡ records_below (nodes_of map g.version) g.blocks g.nodes) where
    -- the blobs that were read are those of the metadata
    pub blobs_are : blobs ≡ records_of m
    blobs_are = read ∙ ap (λ (ns : Nodes). records_below ns g.blocks g.nodes) nodes_are

    pub blobs_read : AreRead g blobs
    blobs_read = subst (AreRead g) (sym blobs_are) (are_read g m.nodes lawful.limits refl)

    joined : (old new more first next : List SurveyFault) → new ≡ old ++ more → old ≡ first → more ≡ next → new ≡ first ++ next
    joined old new more first next step a b =
        step ∙ ap (λ (fs : List SurveyFault). fs ++ more) a ∙ ap (λ (fs : List SurveyFault). first ++ fs) b

    -- faults that were added part by part are those of a survey
    pub whole : (placed : List Bool) (depths : List ℕ) (f0 f1 f2 f3 f4 f5 : List SurveyFault) → length placed ≡ g.nodes → ArePlaced blobs placed → length depths ≡ g.blocks → AreDepths blobs depths
        → f0 ≡ of_each g.nodes (node_faults (nodes_of map g.version) g.blocks) → f1 ≡ f0 ++ of_each (length placed) (orphan_fault (nodes_of map g.version) placed)
        → f2 ≡ f1 ++ of_each (length depths) (overlap_fault depths) → f3 ≡ f2 ++ twice_in (root_counts blobs) → f4 ≡ f3 ++ of_each (65536 * bitmap_blocks g) (bit_fault base depths)
        → f5 ≡ f4 ++ counts_with (counts_in g (block base 0)) (length blobs) (count_by (leb 1) depths) (sum_by (λ b. length b.nodes) blobs) → f5 ≡ survey_of m
    unfolding survey_of
    whole placed depths f0 f1 f2 f3 f4 f5 placed_long are_placed depths_long are_depths e0 e1 e2 e3 e4 e5 =
        let there : ArePlaced (records_of m) placed = subst (λ (bs : List BlobRecord). ArePlaced bs placed) blobs_are are_placed in
        let deep : AreDepths (records_of m) depths = subst (λ (bs : List BlobRecord). AreDepths bs depths) blobs_are are_depths in
        let a0 : f0 ≡ node_faults_of m = e0 ∙ ap (λ (ns : Nodes). of_each g.nodes (node_faults ns g.blocks)) nodes_are in
        let p1 = ap (λ (ns : Nodes). of_each (length placed) (orphan_fault ns placed)) nodes_are ∙ orphans_are m placed there placed_long in
        let a1 = joined f0 f1 _ (node_faults_of m) (orphans_of m) e1 a0 p1 in
        let a2 = joined f1 f2 _ (node_faults_of m ++ orphans_of m) (overlaps_of m) e2 a1 (overlaps_are m depths deep depths_long) in
        let p3 : twice_in (root_counts blobs) ≡ twice_of m = ap (λ (bs : List BlobRecord). twice_in (root_counts bs)) blobs_are in
        let a3 = joined f2 f3 _ (node_faults_of m ++ orphans_of m ++ overlaps_of m) (twice_of m) e3 a2 p3 in
        let a4 = joined f3 f4 _ (node_faults_of m ++ orphans_of m ++ overlaps_of m ++ twice_of m) (bits_of m) e4 a3 (bits_are g base depths lawful.limits deep depths_long) in
        let p5 = ap (λ (bs : List BlobRecord). counts_with m.super (length bs) (count_by (leb 1) depths) (sum_by (λ b. length b.nodes) bs)) blobs_are
        ∙ ap (λ (n : ℕ). counts_with m.super (length (records_of m)) n (sum_by (λ b. length b.nodes) (records_of m))) (blocks_are m depths deep depths_long) in
        joined f4 f5 _ (node_faults_of m ++ orphans_of m ++ overlaps_of m ++ twice_of m ++ bits_of m) (counts_of m) e5 a4 p5
