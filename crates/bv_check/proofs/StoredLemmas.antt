-- The blobs of metadata are stored in lawful extents, and there are few.
use Rattle.std.proofs.Common.{◌≡◌, ℕ, zero, suc, ◌≤◌, List, [], ◌∷◌, ◌++◌, length, All, Bool, true, false, cond, eqb, leb, Result, Ok, Err, refl, ap, sym, ◌∙◌, subst, arith, length-append}
use Rattle.std.proofs.lemmas.List.Elements.{All-nil, All-cons}
use Rattle.spec_tree.specs.Tree.{need_of}
use Rattle.spec_record.specs.declared.extent.Extent.{Extent}
use Rattle.spec_record.specs.declared.inode.Inode.{Inode}
use Rattle.spec_record.specs.declared.node_fault.NodeFault.{NodeFault}
use Rattle.spec_record.specs.declared.node_fault.NodeFault.TheVariants as faults
use Rattle.spec_record.specs.declared.geometry.Geometry.{Geometry}
use Rattle.spec_record.specs.Geometry.{IsGeometry}
use Rattle.spec_record.specs.Extent.{IsExtent, is_extent}
use Rattle.spec_record.proofs.TestLemmas.{equal, at_most}
use Rattle.spec_image.specs.Chain.{Nodes, BlobRecord, wants, lengths, check_counts, chain}
use Rattle.spec_image.specs.Metadata.{Metadata}
use Rattle.spec_image.specs.WellFormed.{read_of, records_below, records_of}
use Rattle.spec_image.proofs.ChainLemmas.{AllExtents, bind_ok, chain_extents}
use Rattle.spec_meta.proofs.Frame.{chain_read, wants_ok}
use Rattle.spec_meta.proofs.Counting.{ranges}
use Rattle.bv_check.specs.Checks.{IsStored, AreStored, AreSmall}

lawful : (blocks : ℕ) (e : Extent) → is_extent blocks e ≡ true → IsExtent blocks e
lawful blocks e good = let r = ranges blocks e good in record { start = r.0; len = record { from_low = r.1; to_high = r.2 }; end = r.3 }

all_lawful : (blocks : ℕ) (es : List Extent) → AllExtents blocks es → All (IsExtent blocks) es
all_lawful blocks [] all = All-nil (IsExtent blocks)
all_lawful blocks (e ∷ es) all = All-cons (IsExtent blocks) e es (lawful blocks e all.0) (all_lawful blocks es all.1)

-- the counts of an inode
record Counted (i : Inode) : Type 0 where
  need : i.blocks ≡ need_of i.version i.size
  few : i.blocks ≤ 65535

counted : (i : Inode) (u : Unit) → check_counts i ≡ Ok u → Counted i
unfolding check_counts
counted i u e =
    let need : ℕ = need_of i.version i.size in
    let needed = bind_ok (wants (eqb i.blocks need) (faults.Count i.blocks need)) _ u e in
    let few = bind_ok (wants (leb i.blocks 65535) (faults.Count i.blocks 65535)) _ u needed.2 in
    record { need = equal i.blocks need (wants_ok (eqb i.blocks need) _ needed.0 needed.1); few = at_most i.blocks 65535 (wants_ok (leb i.blocks 65535) _ few.0 few.1) }

few_bytes : (version size : ℕ) → need_of version size ≤ 65535 → size ≤ 536862720
unfolding need_of
few_bytes version size few = omega (arith, few)

stored : (ns : Nodes) (blocks k : ℕ) (b : BlobRecord) → chain ns blocks k ≡ Ok b → IsStored blocks b
stored ns blocks k b e =
    let read = chain_read ns blocks k b e in
    let counts = counted read.at tt read.counts in
    let sum : lengths b.extents ≡ read.at.blocks = ap (λ (x : BlobRecord). lengths x.extents) read.is ∙ equal _ read.at.blocks read.sum in
    let version : b.version ≡ read.at.version = ap (λ (x : BlobRecord). x.version) read.is in
    let size : b.size ≡ read.at.size = ap (λ (x : BlobRecord). x.size) read.is in
    let need : lengths b.extents ≡ need_of b.version b.size = sum ∙ counts.need ∙ λ i. need_of (sym version i) (sym size i) in
    let few : lengths b.extents ≤ 65535 = omega (arith, sum, counts.few) in
    record {
      extents = all_lawful blocks b.extents (chain_extents ns blocks k b e);
      need = need;
      few = few;
      small = few_bytes b.version b.size (omega (arith, need, few));
    }

AllStored : ℕ → List BlobRecord → Type 0
AllStored blocks bs = All (IsStored blocks) bs

all_append : (blocks : ℕ) (xs ys : List BlobRecord) → All (IsStored blocks) xs → All (IsStored blocks) ys → All (IsStored blocks) (xs ++ ys)
all_append blocks [] ys a b = b
all_append blocks (x ∷ xs) ys a b =
    All-cons (IsStored blocks) x (xs ++ ys) (a 0 x (omega arith)) (all_append blocks xs ys (λ k d lt. a (suc k) d (omega (arith, lt))) b)

read_stored : (ns : Nodes) (blocks k : ℕ) (r : Result BlobRecord NodeFault) → chain ns blocks k ≡ r → All (IsStored blocks) (read_of r)
read_stored ns blocks k (Ok b) e = All-cons (IsStored blocks) b [] (stored ns blocks k b e) (All-nil (IsStored blocks))
read_stored ns blocks k (Err f) e = All-nil (IsStored blocks)

all_stored : (ns : Nodes) (blocks n : ℕ) → All (IsStored blocks) (records_below ns blocks n)
unfolding records_below
all_stored ns blocks zero = All-nil (IsStored blocks)
all_stored ns blocks (suc n) = all_append blocks (records_below ns blocks n) (read_of (chain ns blocks n)) (all_stored ns blocks n) (read_stored ns blocks n (chain ns blocks n) refl)

one_read : (r : Result BlobRecord NodeFault) → length (read_of r) ≤ 1
one_read (Ok b) = omega arith
one_read (Err f) = omega arith

few_records : (ns : Nodes) (blocks n : ℕ) → length (records_below ns blocks n) ≤ n
unfolding records_below
few_records ns blocks zero = omega arith
few_records ns blocks (suc n) =
    omega (arith, length-append (records_below ns blocks n) (read_of (chain ns blocks n)), few_records ns blocks n, one_read (chain ns blocks n))

pub blobs_are_stored : (bs : List BlobRecord) (m : Metadata) (blocks : ℕ) → bs ≡ records_of m → m.super.geometry.blocks ≡ blocks → AreStored blocks bs
blobs_are_stored bs m blocks are same =
    subst (λ (n : ℕ). AreStored n bs) same (subst (All (IsStored m.super.geometry.blocks)) (sym are) (all_stored m.nodes m.super.geometry.blocks m.nodes.count))

pub stored_are_small : (blocks : ℕ) (bs : List BlobRecord) → AreStored blocks bs → AreSmall bs
stored_are_small blocks bs stored = λ k d lt. (stored k d lt).small

pub blobs_are_few : (bs : List BlobRecord) (m : Metadata) → bs ≡ records_of m → length bs ≤ m.nodes.count
blobs_are_few bs m are =
    let count : length bs ≡ length (records_of m) = ap (λ (xs : List BlobRecord). length xs) are in
    omega (arith, count, few_records m.nodes m.super.geometry.blocks m.nodes.count)

few_of : (t : Bool) → cond t 32768 65536 ≤ 65536
few_of true = omega arith
few_of false = omega arith

-- a volume has few nodes
pub few_nodes : (g : Geometry) → IsGeometry g → g.nodes ≤ 65536
few_nodes g limits = omega (arith, limits.nodes.to_high, few_of (eqb g.version 1))
