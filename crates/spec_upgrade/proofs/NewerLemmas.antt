-- Well-formed metadata stays so in a newer version, with the same blobs.
use Rattle.std.proofs.Common.{◌≡◌, ℕ, zero, suc, ◌+◌, ◌<◌, ◌≤◌, List, [], ◌∷◌, ◌++◌, length, Bool, true, false, cond, eqb, leb, ◌||◌, Result, Ok, Err, refl, ap, sym, ◌∙◌, subst, arith}
use Rattle.std.proofs.lemmas.Bool.{false≢true}
use Rattle.std.proofs.lemmas.Bool.Decides.{nat_tests}
use Rattle.std.specs.Prelude.{IsOk, is_ok, sum_by}
use Rattle.spec_record.specs.declared.node.Node.{Node}
use Rattle.spec_record.specs.declared.node.Node.TheVariants as nodes
use Rattle.spec_record.specs.declared.node_fault.NodeFault.{NodeFault}
use Rattle.spec_record.specs.Field.{field}
use Rattle.spec_record.specs.Tests.{value_or_fault, is_between}
use Rattle.spec_record.specs.Node.{inode_in, container_in, version_test, inode_tests, container_tests, free_or_fault, inode_or_fault, container_or_fault, node_or_fault}
use Rattle.spec_record.specs.declared.node_fault.NodeFault.TheVariants as faults
use Rattle.spec_image.specs.Chain.{Nodes, BlobRecord, chain}
use Rattle.spec_image.specs.Metadata.{Metadata}
use Rattle.spec_image.specs.WellFormed.{read_of, records_below, records_of, is_inode, is_container, extents_with, chains_with, blobs_named, count_below, is_well_formed}
use Rattle.spec_image.specs.WellFormedParts.{WellFormed}
use Rattle.spec_image.proofs.WellFormedLemmas.{well_formed_parts, parts_well_formed}
use Rattle.spec_meta.proofs.Counting.{weaker}
use Rattle.spec_meta.proofs.Frame.{chain_read, chain_frame, Holds, Same, behind}
use Rattle.std.specs.List.{AllByRecursion}
use Rattle.spec_upgrade.specs.Newer.{SaysSame}

-- ---- a node

chosen : {A : Type 0} (b : Bool) (r : Result A NodeFault) (f : NodeFault) (y : A) → cond b r (Err f) ≡ Ok y → (b ≡ true) × (r ≡ Ok y)
chosen true r f y e = (refl, e)
chosen false r f y e = absurd cc

wider : (version : ℕ) → is_between 1 version 1 ≡ true → is_between 1 version 2 ≡ true
wider version e = grind (arith, nat_tests)

-- the test of its version holds in a newer volume
tested_newer : (bytes : List ℕ) (tests : List (Bool × NodeFault)) (v n : Node) → value_or_fault (version_test bytes 1 ∷ tests) v ≡ Ok n → value_or_fault (version_test bytes 2 ∷ tests) v ≡ Ok n
tested_newer bytes tests v n e =
    let version : ℕ = field bytes 2 2 in
    let parts = chosen (is_between 1 version 1) (value_or_fault tests v) (faults.Version version) n e in
    ap (λ (b : Bool). cond b (value_or_fault tests v) (Err (faults.Version version))) (wider version parts.0) ∙ parts.1

by_flags : (a b c : Bool) (free : Result Node NodeFault) (bytes : List ℕ) (fault : NodeFault) (n : Node)
    → cond a free (cond b (inode_or_fault bytes 1) (cond c (container_or_fault bytes 1) (Err fault))) ≡ Ok n
    → cond a free (cond b (inode_or_fault bytes 2) (cond c (container_or_fault bytes 2) (Err fault))) ≡ Ok n
by_flags true b c free bytes fault n e = e
by_flags false true c free bytes fault n e = tested_newer bytes (inode_tests bytes) (nodes.Inode (inode_in bytes)) n e
by_flags false false true free bytes fault n e = tested_newer bytes (container_tests bytes) (nodes.Container (container_in bytes)) n e
by_flags false false false free bytes fault n e = absurd cc

pub node_newer : (bytes : List ℕ) (n : Node) → node_or_fault bytes 1 ≡ Ok n → node_or_fault bytes 2 ≡ Ok n
unfolding node_or_fault
node_newer bytes n e =
    let flags : ℕ = field bytes 0 2 in
    by_flags (eqb flags 0) (eqb flags 1) (eqb flags 9) (free_or_fault bytes) bytes (faults.Flags flags) n e

-- ---- the chains

ok_read : (r : Result Node NodeFault) → IsOk r → (n : Node) × (r ≡ Ok n)
ok_read (Ok n) ok = (n, refl)
ok_read (Err f) ok = absurd (false≢true ok)

container_read : (r : Result Node NodeFault) → is_container r ≡ true → (n : Node) × (r ≡ Ok n)
container_read (Ok n) is = (n, refl)
container_read (Err f) is = absurd (false≢true is)

module _ (old new : Metadata) (same : SaysSame old new) where
  same_read : (k : ℕ) (n : Node) → old.nodes.read k ≡ Ok n → new.nodes.read k ≡ old.nodes.read k
  same_read k n e = same.reads k n e ∙ sym e

  chain_newer : (k : ℕ) (b : BlobRecord) → chain old.nodes old.super.geometry.blocks k ≡ Ok b → chain new.nodes old.super.geometry.blocks k ≡ Ok b
  chain_newer k b e =
      let s = chain_read old.nodes old.super.geometry.blocks k b e in
      chain_frame old.nodes new.nodes old.super.geometry.blocks k b same.count e
      (subst (λ (x : BlobRecord). AllByRecursion (Same old.nodes new.nodes) x.nodes) (sym s.is) (
        same_read k (nodes.Inode s.at) s.is_node,
        weaker (Holds is_container old.nodes) (Same old.nodes new.nodes) (λ j h. let r = container_read (old.nodes.read j) h in same_read j r.0 r.1) s.rest.1
            (behind old.nodes old.super.geometry.blocks k b s),
      ))

  module _ (well : WellFormed old) where
    read_below : (k : ℕ) → k < old.nodes.count → new.nodes.read k ≡ old.nodes.read k
    read_below k lt = let r = ok_read (old.nodes.read k) (well.nodes k lt) in same_read k r.0 r.1

    -- a node whose chain doesn't read is no inode, and none in the newer volume
    no_chain : (r : Result Node NodeFault) (blocks k : ℕ) (ns : Nodes) → ns.read k ≡ r → is_ok r ≡ true → is_inode r ≡ false → read_of (chain ns blocks k) ≡ []
    unfolding chain
    no_chain (Ok nodes.Free) blocks k ns e ok none = rw e refl
    no_chain (Ok (nodes.Inode i)) blocks k ns e ok none = absurd (false≢true (sym none))
    no_chain (Ok (nodes.Container c)) blocks k ns e ok none = rw e refl
    no_chain (Err f) blocks k ns e ok none = absurd (false≢true ok)

    ok_chain : (r : Result BlobRecord NodeFault) → IsOk r → (b : BlobRecord) × (r ≡ Ok b)
    ok_chain (Ok b) ok = (b, refl)
    ok_chain (Err f) ok = absurd (false≢true ok)

    one_more : (k : ℕ) → k < old.nodes.count → (t : Bool) → is_inode (old.nodes.read k) ≡ t
        → read_of (chain new.nodes old.super.geometry.blocks k) ≡ read_of (chain old.nodes old.super.geometry.blocks k)
    one_more k lt true is =
        let b = ok_chain (chain old.nodes old.super.geometry.blocks k) (well.chains k lt is) in
        ap read_of (chain_newer k b.0 b.1) ∙ sym (ap read_of b.1)
    one_more k lt false is =
        no_chain (old.nodes.read k) old.super.geometry.blocks k new.nodes (read_below k lt) (well.nodes k lt) is
        ∙ sym (no_chain (old.nodes.read k) old.super.geometry.blocks k old.nodes refl (well.nodes k lt) is)

    below : (n : ℕ) → n ≤ old.nodes.count → records_below new.nodes old.super.geometry.blocks n ≡ records_below old.nodes old.super.geometry.blocks n
    unfolding records_below
    below zero le = refl
    below (suc n) le =
        (λ i. below n (omega arith) i ++ one_more n (omega arith) (is_inode (old.nodes.read n)) refl i)

    pub same_records : records_of new ≡ records_of old
    same_records =
        (λ i. records_below new.nodes (same.blocks i) (same.count i)) ∙ below old.nodes.count (omega arith)

    well_newer : WellFormed new
    well_newer = record {
      nodes = λ k lt. let l : k < old.nodes.count = subst (λ (n : ℕ). k < n) same.count lt in subst IsOk (sym (read_below k l)) (well.nodes k l);
      chains = λ k lt is.
          let l : k < old.nodes.count = subst (λ (n : ℕ). k < n) same.count lt in
          let b = ok_chain (chain old.nodes old.super.geometry.blocks k) (well.chains k l (ap is_inode (sym (read_below k l)) ∙ is)) in
          subst (λ (r : Result BlobRecord NodeFault). IsOk r) (sym (chain_newer k b.0 b.1) ∙ ap (λ (n : ℕ). chain new.nodes n k) (sym same.blocks)) refl;
      containers = λ k lt is.
          let l : k < old.nodes.count = subst (λ (n : ℕ). k < n) same.count lt in
          ap (λ (bs : List BlobRecord). chains_with bs k) same_records ∙ well.containers k l (ap is_container (sym (read_below k l)) ∙ is);
      blocks = λ d. subst (λ (bs : List BlobRecord). extents_with bs d ≤ 1) (sym same_records) (well.blocks d);
      roots = λ root. subst (λ (bs : List BlobRecord). blobs_named bs root ≤ 1) (sym same_records) (well.roots root);
      bits = λ d lt.
          let l : d < old.bit_count = subst (λ (n : ℕ). d < n) same.bit_count lt in
          same.bits d ∙ well.bits d l ∙ ap (λ (bs : List BlobRecord). eqb d 0 || leb 1 (extents_with bs d)) (sym same_records);
      blob_count = same.blobs ∙ well.blob_count ∙ ap (λ (bs : List BlobRecord). length bs) (sym same_records);
      block_count =
          same.used_blocks ∙ well.block_count
          ∙ (λ i. 1 + count_below (sym same.blocks i) (λ d. leb 1 (extents_with (sym same_records i) d)));
      node_count = same.used_nodes ∙ well.node_count ∙ ap (λ (bs : List BlobRecord). sum_by (λ b. length b.nodes) bs) (sym same_records);
    }

pub newer_well : (old new : Metadata) → SaysSame old new → is_well_formed old ≡ true → is_well_formed new ≡ true
newer_well old new same is = parts_well_formed new (well_newer old new same (well_formed_parts old is))

pub newer_records : (old new : Metadata) → SaysSame old new → is_well_formed old ≡ true → records_of new ≡ records_of old
newer_records old new same is = same_records old new same (well_formed_parts old is)
