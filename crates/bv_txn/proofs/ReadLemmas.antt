-- The blobs whose chains read have nodes and extents of their volume, and few of them.
use Rattle.std.proofs.Common.{◌≡◌, ◌<◌, ◌≤◌, ℕ, zero, suc, ◌+◌, ◌-◌, ◌^◌, ◌/◌, List, [], ◌∷◌, length, true, eqb, leb, ◌||◌, Result, Ok, Err, refl, ap, sym, ◌∙◌, subst, arith, length-append}
use Rattle.std.proofs.lemmas.List.Elements.{All-nil, All-cons, All-append, All-weaker}
use Rattle.std.proofs.lemmas.List.Sums.{sum_by-le}
use Rattle.std.specs.Prelude.{All, sum_by}
use Rattle.spec_tree.specs.Tree.{need_of}
use Rattle.spec_record.specs.declared.extent.Extent.{Extent}
use Rattle.spec_record.specs.declared.inode.Inode.{Inode}
use Rattle.spec_record.specs.declared.geometry.Geometry.{Geometry}
use Rattle.spec_record.specs.declared.node_fault.NodeFault.{NodeFault}
use Rattle.spec_record.specs.declared.node_fault.NodeFault.TheVariants as faults
use Rattle.spec_record.specs.Extent.{IsExtent, is_extent}
use Rattle.spec_record.specs.Geometry.{IsGeometry}
use Rattle.spec_record.specs.Node.{no_node, nodes_for}
use Rattle.spec_record.proofs.SuperLemmas.{most_nodes-le}
use Rattle.spec_record.proofs.TestLemmas.{at_most, equal}
use Rattle.spec_image.specs.Chain.{Nodes, BlobRecord, wants, lengths, walk, check_counts, chain}
use Rattle.spec_image.specs.WellFormed.{read_of, records_below}
use Rattle.spec_image.proofs.ChainLemmas.{AllExtents, bind_ok, ok_is, chain_extents}
use Rattle.spec_image.proofs.CountLemmas.{AllBelow, AllNodesBelow, records_nodes}
use Rattle.spec_image.proofs.WellFormedLemmas.{AllRecords, records_extents}
use Rattle.spec_meta.proofs.Counting.{ranges, lengths_more}
use Rattle.spec_meta.proofs.Frame.{chosen, wants_ok, walk_step, chain_read}

-- ---- one blob

-- each extent has a block
few_extents : (blocks : ℕ) (es : List Extent) → AllExtents blocks es → length es ≤ lengths es
few_extents blocks [] all = omega arith
few_extents blocks (e ∷ es) all = omega (arith, (ranges blocks e all.0).1, lengths_more e es, few_extents blocks es all.1)

-- the counts of an inode that passed
pub record CountsPassed (i : Inode) : Type 0 where
  pub blocks : i.blocks ≤ 65535
  pub extents : i.extents ≤ i.blocks

pub counts_passed : (i : Inode) → check_counts i ≡ Ok tt → CountsPassed i
unfolding check_counts
counts_passed i e =
    let need : ℕ = need_of i.version i.size in
    let a = bind_ok (wants (eqb i.blocks need) (faults.Count i.blocks need)) _ tt e in
    let b = bind_ok (wants (leb i.blocks 65535) (faults.Count i.blocks 65535)) _ tt a.2 in
    let c = bind_ok (wants (eqb i.blocks 0 || leb 1 i.extents) (faults.Count 0 1)) _ tt b.2 in
    record {
      blocks = at_most i.blocks 65535 (wants_ok (leb i.blocks 65535) (faults.Count i.blocks 65535) b.0 b.1);
      extents = at_most i.extents i.blocks (wants_ok (leb i.extents i.blocks) (faults.Count i.extents i.blocks) tt c.2);
    }

-- a walk has as many nodes as it was to have
pub walk_long : (ns : Nodes) (blocks version n left previous link : ℕ) (r : List Extent × List ℕ) → walk ns blocks version n left previous link ≡ Ok r → length r.1 ≡ n
unfolding walk
walk_long ns blocks version zero left previous link r e =
    let t = chosen (eqb link no_node) (Ok ([], [])) (faults.BadLink previous) r e in
    ap (λ (x : List Extent × List ℕ). length x.1) (sym (ok_is ([], []) r t.1))
walk_long ns blocks version (suc n) left previous link r e =
    let s = walk_step ns blocks version n left previous link r e in
    let is : length r.1 ≡ suc (length s.rest.1) = ap (λ (x : List Extent × List ℕ). length x.1) s.is in
    omega (arith, is, walk_long ns blocks version n (left - 6) link s.at.next s.rest s.goes_on)

record IsFew (b : BlobRecord) : Type 0 where
  pub nodes : length b.nodes ≤ 65535
  pub extents : length b.extents ≤ 65535

few : (ns : Nodes) (blocks k : ℕ) (b : BlobRecord) → chain ns blocks k ≡ Ok b → IsFew b
few ns blocks k b e =
    let s = chain_read ns blocks k b e in
    let passed = counts_passed s.at s.counts in
    let nodes : length b.nodes ≡ suc (length s.rest.1) = ap (λ (x : BlobRecord). length x.nodes) s.is in
    let long = walk_long ns blocks s.at.version (nodes_for s.at.extents - 1) (s.at.extents - 1) k s.at.next s.rest s.goes_on in
    let sum : lengths b.extents ≡ s.at.blocks = ap (λ (x : BlobRecord). lengths x.extents) s.is ∙ equal _ s.at.blocks s.sum in
    record {
      nodes = omega (arith, nodes, long, passed.blocks, passed.extents, short s.at.extents);
      extents = omega (arith, few_extents blocks b.extents (chain_extents ns blocks k b e), sum, passed.blocks);
    }
  where
    short : (n : ℕ) → nodes_for n ≤ 1 + (n + 4) / 6
    short n = grind arith

-- ---- all blobs

read_few : (ns : Nodes) (blocks k : ℕ) (r : Result BlobRecord NodeFault) → chain ns blocks k ≡ r → All IsFew (read_of r)
read_few ns blocks k (Ok b) e = All-cons IsFew b [] (few ns blocks k b e) (All-nil IsFew)
read_few ns blocks k (Err f) e = All-nil IsFew

all_few : (ns : Nodes) (blocks n : ℕ) → All IsFew (records_below ns blocks n)
unfolding records_below
all_few ns blocks zero = All-nil IsFew
all_few ns blocks (suc n) =
    All-append IsFew (records_below ns blocks n) (read_of (chain ns blocks n)) (all_few ns blocks n) (read_few ns blocks n (chain ns blocks n) refl)

one_at_most : (r : Result BlobRecord NodeFault) → length (read_of r) ≤ 1
one_at_most (Ok b) = omega arith
one_at_most (Err f) = omega arith

few_records : (ns : Nodes) (blocks n : ℕ) → length (records_below ns blocks n) ≤ n
unfolding records_below
few_records ns blocks zero = omega arith
few_records ns blocks (suc n) =
    omega (arith, length-append (records_below ns blocks n) (read_of (chain ns blocks n)), few_records ns blocks n, one_at_most (chain ns blocks n))

all_below : (n : ℕ) (ks : List ℕ) → AllBelow n ks → All (λ k. k < n) ks
unfolding AllBelow
all_below n [] below = All-nil (λ k. k < n)
all_below n (k ∷ ks) below = All-cons (λ j. j < n) k ks below.0 (all_below n ks below.1)

all_nodes : (n : ℕ) (bs : List BlobRecord) → AllNodesBelow n bs → All (λ b. All (λ k. k < n) b.nodes) bs
unfolding AllNodesBelow
all_nodes n [] below = All-nil (λ b. All (λ k. k < n) b.nodes)
all_nodes n (b ∷ bs) below = All-cons (λ x. All (λ k. k < n) x.nodes) b bs (all_below n b.nodes below.0) (all_nodes n bs below.1)

an_extent : (blocks : ℕ) (e : Extent) → is_extent blocks e ≡ true → IsExtent blocks e
an_extent blocks e good =
    let r = ranges blocks e good in
    record { start = r.0; len = record { from_low = r.1; to_high = r.2 }; end = r.3 }

all_ranges : (blocks : ℕ) (es : List Extent) → AllExtents blocks es → All (IsExtent blocks) es
all_ranges blocks [] all = All-nil (IsExtent blocks)
all_ranges blocks (e ∷ es) all = All-cons (IsExtent blocks) e es (an_extent blocks e all.0) (all_ranges blocks es all.1)

all_extents : (blocks : ℕ) (bs : List BlobRecord) → AllRecords blocks bs → All (λ b. All (IsExtent blocks) b.extents) bs
unfolding AllRecords
all_extents blocks [] all = All-nil (λ b. All (IsExtent blocks) b.extents)
all_extents blocks (b ∷ bs) all = All-cons (λ x. All (IsExtent blocks) x.extents) b bs (all_ranges blocks b.extents all.0) (all_extents blocks bs all.1)

-- blobs whose chains were read in a volume: their nodes and extents are the volume's, and few enough
-- that 32 bits count them
pub record AreRead (g : Geometry) (bs : List BlobRecord) : Type 0 where
  pub nodes : All (λ b. All (λ k. k < g.nodes) b.nodes) bs
  pub extents : All (λ b. All (IsExtent g.blocks) b.extents) bs
  pub nodes_few : sum_by (λ b. length b.nodes) bs < 2 ^ 32
  pub extents_few : sum_by (λ b. length b.extents) bs < 2 ^ 32

-- what was read in a volume
pub are_read : (g : Geometry) (ns : Nodes) → IsGeometry g → ns.count ≡ g.nodes → AreRead g (records_below ns g.blocks g.nodes)
are_read g ns limits count =
    let bs = records_below ns g.blocks g.nodes in
    let few : All IsFew bs = all_few ns g.blocks g.nodes in
    let long : length bs ≤ 65536 = omega (arith, few_records ns g.blocks g.nodes, limits.nodes.to_high, most_nodes-le g.version) in
    let below : AllNodesBelow g.nodes bs = subst (λ (n : ℕ). AllNodesBelow n bs) count (records_nodes ns g.blocks g.nodes (omega (arith, count))) in
    let nodes = sum_by-le (λ b. length b.nodes) 65535 bs (All-weaker IsFew (λ b. length b.nodes ≤ 65535) (λ b f. f.nodes) bs few) in
    let extents = sum_by-le (λ b. length b.extents) 65535 bs (All-weaker IsFew (λ b. length b.extents ≤ 65535) (λ b f. f.extents) bs few) in
    record {
      nodes = all_nodes g.nodes bs below;
      extents = all_extents g.blocks bs (records_extents ns g.blocks g.nodes);
      nodes_few = omega (arith, nodes, long);
      extents_few = omega (arith, extents, long);
    }
