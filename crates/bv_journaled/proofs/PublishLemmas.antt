-- A publication fits metadata behind purges: purges only free nodes and clear bits.
use Rattle.std.proofs.Common.{◌≡◌, ◌<◌, ◌≤◌, ℕ, ◌+◌, List, [], ◌∷◌, Bool, true, false, cond, leb, eqb, not, ◌&&◌, Option, Some, None, Result, Ok, refl, ap, sym, ◌∙◌, subst, inl, inr, arith}
use Rattle.std.proofs.lemmas.Bool.{cases_lt}
use Rattle.std.proofs.lemmas.List.Sums.{sum_by-cons}
use Rattle.std.specs.Prelude.{Contains, find, option_map}
use Rattle.std.specs.List.{list_any}
use Rattle.spec_tree.specs.declared.Digest.{Digest}
use Rattle.spec_tree.specs.Order.{same_digest}
use Rattle.spec_disk.proofs.ImageLemmas.{Contains-head, Contains-cons, Contains-cons_cases}
use Rattle.spec_record.specs.declared.node.Node.{Node}
use Rattle.spec_record.specs.declared.node.Node.TheVariants as nodes
use Rattle.spec_record.specs.declared.node_fault.NodeFault.{NodeFault}
use Rattle.spec_record.specs.Geometry.{IsGeometry}
use Rattle.spec_record.specs.declared.geometry.Geometry.{Geometry}
use Rattle.spec_record.specs.Tests.{IsBetween}
use Rattle.spec_image.specs.Chain.{BlobRecord}
use Rattle.spec_image.specs.Metadata.{Metadata}
use Rattle.spec_image.specs.Volume.{blob_in}
use Rattle.spec_image.specs.WellFormed.{records_of, extents_with, blobs_named, is_well_formed}
use Rattle.spec_image.specs.WellFormedParts.{WellFormed}
use Rattle.spec_image.proofs.WellFormedLemmas.{well_formed_parts}
use Rattle.spec_core.specs.State.{find as find_entry}
use Rattle.spec_meta.specs.Change.{Change, times, uses, after_all}
use Rattle.spec_meta.specs.Fits.{FitsPublish}
use Rattle.spec_meta.proofs.Counting.{count, true_or_false, extents_more}
use Rattle.spec_meta.proofs.MapLemmas.{named}
use Rattle.bv_claims.specs.Blocks.{Rises}
use Rattle.bv_store.specs.declared.publication.Publication.{Publication}
use Rattle.bv_store.specs.Stored.{CanPublish, blocks_in, nodes_of}
use Rattle.bv_journaled.specs.Publishing.{record_of, AreFree}
use Rattle.bv_journaled.specs.Purging.{purge_change, purge_changes}
use Rattle.bv_journaled.specs.Standing.{placed_of}
use Rattle.bv_journaled.proofs.ExtentLemmas.{used_within, runs_lie, runs_once, runs_within, runs_length}
use Rattle.bv_journaled.proofs.LookAfterLemmas.{found_after}
use Rattle.bv_journaled.proofs.PlacedLemmas.{places, placed_has, placed_blocks}
use Rattle.bv_journaled.proofs.PurgingLemmas.{after_append}

-- ---- what purges leave

-- the counts of the volume are the same; free nodes stay free, and clear bits clear
pub record Freed (old new : Metadata) : Type 0 where
  pub geometry : new.super.geometry ≡ old.super.geometry
  pub node_count : new.nodes.count ≡ old.nodes.count
  pub bit_count : new.bit_count ≡ old.bit_count
  pub free : (k : ℕ) → old.nodes.read k ≡ Ok nodes.Free → new.nodes.read k ≡ Ok nodes.Free
  pub clear : (d : ℕ) → old.bit d ≡ false → new.bit d ≡ false

freed_one : (m : Metadata) (o : Option BlobRecord) → Freed m (after_all m (purge_change o))
freed_one m None = record { geometry = refl; node_count = refl; bit_count = refl; free = λ k is. is; clear = λ d is. is }
freed_one m (Some b) = record {
  geometry = refl;
  node_count = refl;
  bit_count = refl;
  free = λ k is. freed (leb 1 (times k b.nodes)) (m.nodes.read k) is;
  clear = λ d is. ap (λ (t : Bool). t && not (leb 1 (uses d b.extents))) is;
}
  where
    freed : (t : Bool) (r : Result Node NodeFault) → r ≡ Ok nodes.Free → cond t (Ok nodes.Free) r ≡ Ok nodes.Free
    freed true r is = refl
    freed false r is = is

freed_then : (a b c : Metadata) → Freed a b → Freed b c → Freed a c
freed_then a b c first second = record {
  geometry = second.geometry ∙ first.geometry;
  node_count = second.node_count ∙ first.node_count;
  bit_count = second.bit_count ∙ first.bit_count;
  free = λ k is. second.free k (first.free k is);
  clear = λ d is. second.clear d (first.clear d is);
}

freed_itself : (m : Metadata) → Freed m m
freed_itself m = freed_one m None

pub purges_free : (m : Metadata) (roots : List Digest) → Freed m (after_all m (purge_changes m roots))
purges_free m [] = freed_itself m
purges_free m (root ∷ roots) =
    let first : List Change = purge_change (blob_in m root) in
    let m1 : Metadata = after_all m first in
    subst (Freed m) (sym (after_append m first (purge_changes m1 roots)))
    (freed_then m m1 (after_all m1 (purge_changes m1 roots)) (freed_one m (blob_in m root)) (purges_free m1 roots))

-- ---- bits that are clear

-- a block in an extent of some blobs is in one of one of them
one_uses : (rs : List BlobRecord) (d : ℕ) → 1 ≤ extents_with rs d → (r : BlobRecord) × Contains rs r × (1 ≤ uses d r.extents)
one_uses [] d some = absurd (omega (arith, some))
one_uses (r ∷ rs) d some =
    elim (cases_lt 0 (uses d r.extents)) [
      | inl here ↦ (r, Contains-head r rs, omega (arith, here))
      | inr none ↦
          let rest = one_uses rs d (omega (arith, some, none, extents_more d r rs)) in
          (rest.0, Contains-cons r rs rest.0 rest.1, rest.2)
    ]

-- a block of no blob has a clear bit
pub bit_clear : (m : Metadata) (d : ℕ) → WellFormed m → 1 ≤ d → d < m.bit_count → ¬ Contains (blocks_in (placed_of (records_of m))) d → m.bit d ≡ false
bit_clear m d w some within apart =
    elim (cases_lt 0 (extents_with (records_of m) d)) [
      | inl used ↦
          let one = one_uses (records_of m) d (omega (arith, used)) in
          absurd (apart (placed_blocks m one.0 d w one.1 (used_within (one.0).extents d one.2)))
      | inr none ↦
          let first : eqb d 0 ≡ false = grind (arith, some) in
          let others : leb 1 (extents_with (records_of m) d) ≡ false = grind (arith, none) in
          w.bits d within ∙ rw (first, others) refl
    ]

-- blocks that rise are in their range
risen_within : (bs : List ℕ) (low high d : ℕ) → Rises low bs high → Contains bs d → (low ≤ d) × (d < high)
risen_within [] low high d rises (k, below, is) = absurd (omega (arith, below))
risen_within (b ∷ bs) low high d rises c =
    elim (Contains-cons_cases b bs d c) [
      | inl is ↦ (omega (arith, rises.0, is), omega (arith, rises.1, is))
      | inr later ↦ let rest = risen_within bs (b + 1) high d rises.2 later in (omega (arith, rest.0, rises.0), rest.1)
    ]

-- ---- roots that are new

unnamed : (rs : List BlobRecord) (root : Digest) → find (named root) rs ≡ None → blobs_named rs root ≡ 0
unnamed [] root none = refl
unnamed (r ∷ rs) root none =
    let sum = sum_by-cons (λ x. count (same_digest root x.root)) r rs in
    elim (true_or_false (same_digest root r.root)) [
      | inl is ↦ let found : cond true (Some r) (find (named root) rs) ≡ None = sym (ap (λ (t : Bool). cond t (Some r) (find (named root) rs)) is) ∙ none in absurd cc
      | inr not_it ↦
          let here : count (same_digest root r.root) ≡ 0 = ap count not_it in
          let later : find (named root) rs ≡ None = sym (ap (λ (t : Bool). cond t (Some r) (find (named root) rs)) not_it) ∙ none in
          omega (arith, sum, here, unnamed rs root later)
    ]

no_place : (o : Option BlobRecord) → option_map places o ≡ None → o ≡ None
no_place None e = refl
no_place (Some r) e = absurd cc

still_none : (t : Bool) (o : Option BlobRecord) → o ≡ None → cond t None o ≡ None
still_none true o e = refl
still_none false o e = e

-- a root without a place has no blob, behind purges too
pub new_after : (m : Metadata) (roots : List Digest) (root : Digest) → is_well_formed m ≡ true → find_entry (placed_of (records_of m)) root ≡ None → blobs_named (records_of (after_all m (purge_changes m roots))) root ≡ 0
new_after m roots root formed none =
    let absent : blob_in m root ≡ None = no_place (blob_in m root) (sym (placed_has (records_of m) root) ∙ none) in
    unnamed (records_of (after_all m (purge_changes m roots))) root (found_after m roots root formed ∙ still_none (list_any (same_digest root) roots) (blob_in m root) absent)

-- ---- the publication

-- a publication of new blocks in free nodes fits behind purges
pub publish_fits : (m : Metadata) (roots : List Digest) (p : Publication) (ks : List ℕ) → is_well_formed m ≡ true → IsGeometry m.super.geometry
    → CanPublish m.super.geometry (placed_of (records_of m)) p
    → ((d : ℕ) → Contains p.blocks.items d → ¬ Contains (blocks_in (placed_of (records_of m))) d)
    → m.super.geometry.blocks ≤ m.bit_count
    → AreFree m (nodes_of p) ks
    → FitsPublish (after_all m (purge_changes m roots)) (record_of p ks)
publish_fits m roots p ks formed lawful can apart enough free =
    let after : Metadata = after_all m (purge_changes m roots) in
    let freed : Freed m after = purges_free m roots in
    let w : WellFormed m = well_formed_parts m formed in
    let g : Geometry = m.super.geometry in
    let bs : List ℕ = p.blocks.items in
    record {
      version = subst (λ (x : Geometry). IsBetween 1 p.blob.version x.version) (sym freed.geometry) (record { from_low = omega (arith, can.version, lawful.version.from_low); to_high = omega (arith, can.version) });
      extents = rw freed.geometry (runs_lie bs g.blocks can.rising);
      need = runs_length bs 1 g.blocks can.rising ∙ can.blocks;
      few = omega (arith, runs_length bs 1 g.blocks can.rising, can.few);
      blocks_once = λ d. runs_once bs 1 g.blocks d can.rising;
      blocks_clear = λ d used.
          let c : Contains bs d = runs_within bs 1 g.blocks d can.rising used in
          let range = risen_within bs 1 g.blocks d can.rising c in
          let below : d < m.bit_count = omega (arith, range.1, enough) in
          (omega (arith, below, freed.bit_count), freed.clear d (bit_clear m d w range.0 below (apart d c)));
      node_count = free.many;
      nodes_once = free.once;
      nodes_free = λ k some.
          let was = free.free k some in
          (omega (arith, was.0, freed.node_count), freed.free k was.1);
      new_root = new_after m roots p.root formed can.new;
    }
