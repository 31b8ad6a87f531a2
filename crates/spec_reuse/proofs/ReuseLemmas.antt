-- A blob that is purged can be published again.
use Rattle.std.proofs.Common.{◌≡◌, ℕ, ◌<◌, ◌≤◌, List, [], ◌∷◌, All, Bool, true, false, not, eqb, leb, ◌&&◌, Ok, refl, ap, sym, ◌∙◌, subst, inl, inr, arith}
use Rattle.std.proofs.lemmas.Bool.{cases_eq, cases_lt}
use Rattle.std.proofs.lemmas.List.Elements.{All-nil, All-cons}
use Rattle.spec_tree.specs.Order.{same_digest}
use Rattle.spec_tree.specs.Tree.{need_of}
use Rattle.spec_record.specs.declared.extent.Extent.{Extent}
use Rattle.spec_record.specs.declared.inode.Inode.{Inode}
use Rattle.spec_record.specs.declared.node.Node.TheVariants as nodes
use Rattle.spec_record.specs.declared.node_fault.NodeFault.TheVariants as faults
use Rattle.spec_record.specs.Extent.{IsExtent, is_extent}
use Rattle.spec_record.proofs.TestLemmas.{equal, at_most}
use Rattle.spec_image.specs.Chain.{Nodes, BlobRecord, wants, lengths, check_counts, chain}
use Rattle.spec_image.specs.Metadata.{Metadata}
use Rattle.spec_image.specs.WellFormed.{covers, records_of}
use Rattle.spec_image.specs.WellFormedParts.{WellFormed}
use Rattle.spec_image.proofs.ChainLemmas.{AllExtents, AllVisited, bind_ok, chain_extents, chain_nodes}
use Rattle.spec_image.proofs.WellFormedLemmas.{well_formed_parts}
use Rattle.spec_meta.specs.Change.{purged, times, uses}
use Rattle.spec_meta.specs.Fits.{FitsPublish}
use Rattle.spec_meta.proofs.Apart.{chains_once}
use Rattle.spec_meta.proofs.Counting.{count, ranges, sum_inserted, times_other, uses_more}
use Rattle.spec_meta.proofs.Frame.{chain_read, wants_ok}
use Rattle.spec_core.proofs.Holding.{same_self}
use Rattle.spec_meta.proofs.PurgeLemmas.{in_sum, purge_records, read_at}
use Rattle.spec_reuse.specs.Reuse.{IsBlobOf, PurgedFitsAgain}

lawful : (blocks : ℕ) (e : Extent) → is_extent blocks e ≡ true → IsExtent blocks e
lawful blocks e good =
    let r = ranges blocks e good in record { start = r.0; len = record { from_low = r.1; to_high = r.2 }; end = r.3 }

all_lawful : (blocks : ℕ) (es : List Extent) → AllExtents blocks es → All (IsExtent blocks) es
all_lawful blocks [] all = All-nil (IsExtent blocks)
all_lawful blocks (e ∷ es) all =
    All-cons (IsExtent blocks) e es (lawful blocks e all.0) (all_lawful blocks es all.1)

-- the counts of an inode
record Counted (i : Inode) : Type 0 where
  need : i.blocks ≡ need_of i.version i.size
  few : i.blocks ≤ 65535

counted : (i : Inode) → check_counts i ≡ Ok tt → Counted i
unfolding check_counts
counted i e =
    let need : ℕ = need_of i.version i.size in
    let needed = bind_ok (wants (eqb i.blocks need) (faults.Count i.blocks need)) _ tt e in
    let few = bind_ok (wants (leb i.blocks 65535) (faults.Count i.blocks 65535)) _ tt needed.2 in
    record {
      need = equal i.blocks need (wants_ok (eqb i.blocks need) _ needed.0 needed.1);
      few = at_most i.blocks 65535 (wants_ok (leb i.blocks 65535) _ few.0 few.1);
    }

-- the lengths of a blob that was read
record Measured (b : BlobRecord) : Type 0 where
  need : lengths b.extents ≡ need_of b.version b.size
  few : lengths b.extents ≤ 65535

measured : (ns : Nodes) (blocks k : ℕ) (b : BlobRecord) → chain ns blocks k ≡ Ok b → Measured b
measured ns blocks k b e =
    let read = chain_read ns blocks k b e in
    let counts = counted read.at read.counts in
    let sum : lengths b.extents ≡ read.at.blocks =
    ap (λ (x : BlobRecord). lengths x.extents) read.is ∙ equal _ read.at.blocks read.sum in
    let version : b.version ≡ read.at.version = ap (λ (x : BlobRecord). x.version) read.is in
    let size : b.size ≡ read.at.size = ap (λ (x : BlobRecord). x.size) read.is in
    record {
      need = sum ∙ counts.need ∙ λ i. need_of (sym version i) (sym size i);
      few = omega (arith, sum, counts.few);
    }

-- a block in lawful extents is one of the volume
covered : (blocks d : ℕ) (e : Extent) → is_extent blocks e ≡ true → 1 ≤ count (covers d e) → d < blocks
covered blocks d e good some =
    let r = ranges blocks e good in grind (arith, r.3, some)

within : (blocks d : ℕ) (es : List Extent) → AllExtents blocks es → 1 ≤ uses d es → d < blocks
within blocks d [] all some = absurd (omega (arith, some))
within blocks d (e ∷ es) all some =
    elim (cases_lt 0 (count (covers d e))) [
      | inl here ↦ covered blocks d e all.0 here
      | inr none ↦ within blocks d es all.1 (omega (arith, some, none, uses_more d e es))
    ]

-- a node of a chain is one of the volume
visited_below : (ns : Nodes) (ks : List ℕ) (j : ℕ) → AllVisited ns ks → 1 ≤ times j ks → j < ns.count
visited_below ns [] j all some = absurd (omega (arith, some))
visited_below ns (k ∷ ks) j all some =
    elim (cases_eq k j) [
      | inl is ↦ subst (λ (x : ℕ). x < ns.count) is all.0.below
      | inr ne ↦ visited_below ns ks j all.1 (omega (arith, some, times_other k j ks ne))
    ]

node_below : (ns : Nodes) (blocks k j : ℕ) (b : BlobRecord) → chain ns blocks k ≡ Ok b → k < ns.count → 1 ≤ times j b.nodes → j < ns.count
node_below ns blocks k j b e lt some =
    let c = chain_nodes ns blocks k b e in
    let among : 1 ≤ times j (k ∷ c.rest) = subst (λ (x : List ℕ). 1 ≤ times j x) (sym c.nodes) some in
    elim (cases_eq k j) [
      | inl is ↦ subst (λ (x : ℕ). x < ns.count) is lt
      | inr ne ↦ visited_below ns c.rest j c.visited (omega (arith, among, times_other k j c.rest ne))
    ]

-- a bit is clear behind a purge of its block
cleared : (bit : Bool) (n : ℕ) → 1 ≤ n → (bit && not (leb 1 n)) ≡ false
cleared true n some = grind (arith, some)
cleared false n some = refl

again : (m : Metadata) (b : BlobRecord) → WellFormed m → m.super.geometry.blocks ≤ m.bit_count → IsBlobOf m b → FitsPublish (purged m b.nodes b.extents) b
again m b w wide of =
    let blocks : ℕ = m.super.geometry.blocks in
    let count' : ℕ = m.nodes.count in
    let r = read_at m.nodes blocks count' b of.present in
    let lengths' = measured m.nodes blocks r.0 b r.2 in
    let lawful' : AllExtents blocks b.extents = chain_extents m.nodes blocks r.0 b r.2 in
    let fewer = purge_records m b w r.0 r.1 r.2 in
    let here : count (same_digest b.root b.root) ≡ 1 = ap count (same_self b.root) in
    let named = sum_inserted (λ x. count (same_digest b.root x.root)) b (records_of (purged m b.nodes b.extents)) (records_of m) fewer in
    record {
      version = of.version;
      extents = all_lawful blocks b.extents lawful';
      need = lengths'.need;
      few = lengths'.few;
      blocks_once = λ d. omega (arith, in_sum (λ x. uses d x.extents) m.nodes blocks count' r.0 b r.1 r.2, w.blocks d);
      blocks_clear = λ d used. (omega (arith, wide, within blocks d b.extents lawful' used), cleared (m.bit d) (uses d b.extents) used);
      node_count = of.nodes;
      nodes_once = λ j. omega (arith, in_sum (λ x. times j x.nodes) m.nodes blocks count' r.0 b r.1 r.2, chains_once m.nodes blocks count' j);
      nodes_free = λ j used. (node_below m.nodes blocks r.0 j b r.2 r.1 used, freed m b j used);
      new_root = omega (arith, named, here, w.roots b.root);
    }
  where
    freed : (m : Metadata) (b : BlobRecord) (j : ℕ) → 1 ≤ times j b.nodes → (purged m b.nodes b.extents).nodes.read j ≡ Ok nodes.Free
    freed m b j some = let t : leb 1 (times j b.nodes) ≡ true = grind (arith, some) in rw t refl

pub fits_again : PurgedFitsAgain
fits_again m b well wide of = (
  record { blob = b; present = of.present; nodes = refl; extents = refl },
  (again m b (well_formed_parts m well) wide of, tt),
)
