-- The parts of a survey, from what was counted on its way.
use Rattle.std.proofs.Common.{◌≡◌, ◌<◌, ◌≤◌, ℕ, zero, suc, ◌+◌, ◌*◌, ◌/◌, List, [], length, take, drop, get_or, Bool, cond, eqb, leb, ◌||◌, refl, ap, sym, ◌∙◌, inl, inr, arith}
use Rattle.std.proofs.lemmas.Bool.{cases_lt}
use Rattle.std.proofs.lemmas.List.{get_or_past, length-take, length-drop, take_all}
use Rattle.std.proofs.lemmas.List.Sums.{sum_by_more}
use Rattle.std.specs.Prelude.{count_by}
use Rattle.spec_disk.specs.Disk.{block}
use Rattle.spec_record.specs.declared.geometry.Geometry.{Geometry}
use Rattle.spec_record.specs.declared.node_fault.NodeFault.TheVariants as node_faulty
use Rattle.spec_record.specs.Geometry.{IsGeometry, bitmap_blocks, node_map_in}
use Rattle.spec_image.specs.Chain.{BlobRecord}
use Rattle.spec_image.specs.Metadata.{Metadata}
use Rattle.spec_image.specs.WellFormed.{records_of, count_below, extents_with, chains_with, is_container, blocks_in_extents}
use Rattle.spec_image.proofs.WellFormedLemmas.{records_extents, past_records}
use Rattle.spec_meta.specs.declared.survey_fault.SurveyFault.{SurveyFault}
use Rattle.spec_meta.specs.declared.survey_fault.SurveyFault.TheVariants as faulty
use Rattle.spec_meta.specs.Blocks.{metadata_at}
use Rattle.spec_meta.proofs.Counting.{count}
use Rattle.spec_meta.specs.Survey.{of_each, unless, same_bool, orphans_of, overlaps_of, bits_of}
use Rattle.bv_node.specs.Chains.{nodes_of}
use Rattle.bv_txn.specs.Drafts.{bits_at}
use Rattle.bv_txn.specs.Metas.{IsLawful}
use Rattle.bv_txn.specs.Surveys.{AreDepths, ArePlaced, orphan_fault, overlap_fault, bit_fault}
use Rattle.bv_txn.proofs.FaultLemmas.{of_each_same}
use Rattle.bv_txn.proofs.MetaLemmas.{bit_read}

-- the nodes of the node map are those of the metadata
pub nodes_same : (g : Geometry) (base : List (List ℕ)) → IsLawful g base → nodes_of (node_map_in g base) g.version ≡ (metadata_at g base).nodes
nodes_same g base lawful =
    let long : length (node_map_in g base) ≡ g.nodes / 128 = omega (arith, length-take (g.nodes / 128) (drop (1 + bitmap_blocks g) base), length-drop (1 + bitmap_blocks g) base, lawful.count) in
    let count : 128 * length (node_map_in g base) ≡ g.nodes = omega (arith, long, lawful.limits.whole_node_blocks) in
    λ i. record { count = count i; read = (metadata_at g base).nodes.read }

-- of numbers that are a function's, those that pass a test
counted_to : (test : ℕ → Bool) (xs : List ℕ) (f : ℕ → ℕ) → ((d : ℕ) → d < length xs → get_or xs d 0 ≡ f d) → (n : ℕ) → n ≤ length xs → count_by test (take n xs) ≡ count_below n (λ d. test (f d))
unfolding count_below
counted_to test xs f same zero le = refl
counted_to test xs f same (suc n) le =
    let one : suc n ≡ n + 1 = omega arith in
    let more : count_by test (take (n + 1) xs) ≡ count_by test (take n xs) + count (test (get_or xs n 0)) = sum_by_more (λ x. count (test x)) xs n 0 (omega (arith, le)) in
    let step : count_by test (take (suc n) xs) ≡ count_by test (take n xs) + count (test (get_or xs n 0)) = ap (λ (k : ℕ). count_by test (take k xs)) one ∙ more in
    let here : count (test (get_or xs n 0)) ≡ count (test (f n)) = ap (λ (x : ℕ). count (test x)) (same n (omega (arith, le))) in
    omega (arith, step, here, counted_to test xs f same n (omega (arith, le)))

counted : (test : ℕ → Bool) (xs : List ℕ) (f : ℕ → ℕ) → ((d : ℕ) → d < length xs → get_or xs d 0 ≡ f d) → count_by test xs ≡ count_below (length xs) (λ d. test (f d))
counted test xs f same =
    ap (count_by test) (sym (take_all (length xs) xs (omega arith))) ∙ counted_to test xs f same (length xs) (omega arith)

module _ (m : Metadata) where
  abbrev bs : List BlobRecord
  bs = records_of m

  abbrev orphan_unless : ℕ → Bool → List SurveyFault
  orphan_unless k placed =
      cond (is_container (m.nodes.read k)) (unless placed (faulty.Node k node_faulty.Orphan)) []

  -- the orphans are those that aren't placed
  pub orphans_are : (placed : List Bool) → ArePlaced bs placed → length placed ≡ m.nodes.count → of_each (length placed) (orphan_fault m.nodes placed) ≡ orphans_of m
  orphans_are placed are long =
      of_each_same (orphan_fault m.nodes placed) (λ k. orphan_unless k (leb 1 (chains_with bs k))) (length placed) (λ k lt. ap (orphan_unless k) (are k lt))
      ∙ ap (λ (n : ℕ). of_each n (λ k. orphan_unless k (leb 1 (chains_with bs k)))) long

  -- the overlaps are those of the depths
  pub overlaps_are : (depths : List ℕ) → AreDepths bs depths → length depths ≡ m.super.geometry.blocks → of_each (length depths) (overlap_fault depths) ≡ overlaps_of m
  overlaps_are depths are long =
      of_each_same (overlap_fault depths) (λ d. unless (leb (extents_with bs d) 1) (faulty.Overlap d)) (length depths) (λ d lt. ap (λ (n : ℕ). unless (leb n 1) (faulty.Overlap d)) (are d lt))
      ∙ ap (λ (n : ℕ). of_each n (λ d. unless (leb (extents_with bs d) 1) (faulty.Overlap d))) long

  -- past the data blocks no extent is
  all_depths : (depths : List ℕ) → AreDepths bs depths → length depths ≡ m.super.geometry.blocks → (d : ℕ) → get_or depths d 0 ≡ extents_with bs d
  all_depths depths are long d =
      elim (cases_lt d (length depths)) [
        | inl lt ↦ are d lt
        | inr past ↦ get_or_past depths d 0 past ∙ sym (past_records m.super.geometry.blocks d bs (records_extents m.nodes m.super.geometry.blocks m.nodes.count) (omega (arith, past, long)))
      ]

  -- the blocks in extents are those with a depth
  pub blocks_are : (depths : List ℕ) → AreDepths bs depths → length depths ≡ m.super.geometry.blocks → count_by (leb 1) depths ≡ blocks_in_extents m
  blocks_are depths are long =
      counted (leb 1) depths (extents_with bs) are ∙ ap (λ (n : ℕ). count_below n (λ d. leb 1 (extents_with bs d))) long

abbrev bit_unless : ℕ → Bool → ℕ → List SurveyFault
bit_unless d says depth =
    unless (same_bool says (eqb d 0 || leb 1 depth)) (faulty.Bitmap d says)

-- the bits that say the wrong thing are those that don't agree with the depths
pub bits_are : (g : Geometry) (base : List (List ℕ)) (depths : List ℕ) → IsGeometry g → AreDepths (records_of (metadata_at g base)) depths → length depths ≡ g.blocks
    → of_each (65536 * bitmap_blocks g) (bit_fault base depths) ≡ bits_of (metadata_at g base)
bits_are g base depths limits are long =
    let m : Metadata = metadata_at g base in
    of_each_same (bit_fault base depths) (λ d. bit_unless d (m.bit d) (extents_with (records_of m) d)) (65536 * bitmap_blocks g)
    (λ d lt. ap (bit_unless d (bits_at (block base) d)) (all_depths m depths are long d) ∙ ap (λ (says : Bool). bit_unless d says (extents_with (records_of m) d)) (sym (bit_read g base limits d lt)))
