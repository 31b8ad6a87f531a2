-- What the flags and the root of a node's bytes say of how it reads.
use Rattle.std.proofs.Common.{◌≡◌, ◌≢◌, ℕ, List, [], ◌∷◌, take, drop, Bool, true, false, cond, eqb, ◌&&◌, Result, Ok, Err, refl, ap, sym, ◌∙◌, arith}
use Rattle.spec_tree.specs.declared.Digest.{Digest}
use Rattle.spec_tree.specs.Order.{same_digest}
use Rattle.spec_record.specs.declared.inode.Inode.{Inode}
use Rattle.spec_record.specs.declared.node.Node.{Node}
use Rattle.spec_record.specs.declared.node.Node.TheVariants as nodes
use Rattle.spec_record.specs.declared.node_fault.NodeFault.{NodeFault}
use Rattle.spec_record.specs.declared.node_fault.NodeFault.TheVariants as faults
use Rattle.spec_record.specs.Field.{field}
use Rattle.spec_record.specs.Node.{inode_in, container_in, free_or_fault, inode_or_fault, container_or_fault, inode_tests, container_tests, version_test, zero_test, node_or_fault}
use Rattle.spec_record.specs.Tests.{value_or_fault}
use Rattle.spec_image.specs.WellFormed.{is_inode}
use Rattle.spec_meta.proofs.Frame.{is_free}
use Rattle.bv_journaled.specs.Inodes.{is_inode_of}

-- what is asked of a node that was read
abbrev Asks : Type 0
Asks = Result Node NodeFault → Bool

-- two questions have one answer of the node where tests are passed, and of each fault
tests_leave : (p q : Asks) (ts : List (Bool × NodeFault)) (n : Node) → ((f : NodeFault) → p (Err f) ≡ q (Err f)) → p (Ok n) ≡ q (Ok n) → p (value_or_fault ts n) ≡ q (value_or_fault ts n)
tests_leave p q [] n err ok = ok
tests_leave p q (t ∷ ts) n err ok = each t.0 (tests_leave p q ts n err ok)
  where
    each : (b : Bool) → p (value_or_fault ts n) ≡ q (value_or_fault ts n) → p (cond b (value_or_fault ts n) (Err t.1)) ≡ q (cond b (value_or_fault ts n) (Err t.1))
    each true later = later
    each false later = err t.1

choose : (p q : Asks) (b : Bool) (x y : Result Node NodeFault) → p x ≡ q x → p y ≡ q y → p (cond b x y) ≡ q (cond b x y)
choose p q true x y first second = first
choose p q false x y first second = second

-- bytes with the flags of an inode or a container, or with others
in_use_or_fault : List ℕ → ℕ → Result Node NodeFault
in_use_or_fault bytes volume =
    cond (eqb (field bytes 0 2) 1) (inode_or_fault bytes volume) (cond (eqb (field bytes 0 2) 9) (container_or_fault bytes volume) (Err (faults.Flags (field bytes 0 2))))

-- one answer where the flags aren't those of a free node
used_says : (p q : Asks) (bytes : List ℕ) (volume : ℕ) → ((f : NodeFault) → p (Err f) ≡ q (Err f)) → p (Ok (nodes.Inode (inode_in bytes))) ≡ q (Ok (nodes.Inode (inode_in bytes)))
    → p (Ok (nodes.Container (container_in bytes))) ≡ q (Ok (nodes.Container (container_in bytes))) → p (in_use_or_fault bytes volume) ≡ q (in_use_or_fault bytes volume)
unfolding in_use_or_fault
used_says p q bytes volume err inode container =
    choose p q (eqb (field bytes 0 2) 1) (inode_or_fault bytes volume) _
    (tests_leave p q (version_test bytes volume ∷ inode_tests bytes) (nodes.Inode (inode_in bytes)) err inode)
    (choose p q (eqb (field bytes 0 2) 9) (container_or_fault bytes volume) (Err (faults.Flags (field bytes 0 2)))
    (tests_leave p q (version_test bytes volume ∷ container_tests bytes) (nodes.Container (container_in bytes)) err container)
    (err (faults.Flags (field bytes 0 2))))

-- ---- the root

and_false : (b : Bool) → (b && false) ≡ false
and_false true = refl
and_false false = refl

and_true : (b : Bool) → (b && true) ≡ b
and_true true = refl
and_true false = refl

-- the bytes where an inode has its root
abbrev pub root_bytes : List ℕ → Digest
root_bytes bytes = record { 0 = take 32 (drop 8 bytes) }

-- bytes read as the inode of a blob with a root where they have it, and read as an inode
pub inode_by_root : (root : Digest) (bytes : List ℕ) (volume : ℕ) → is_inode_of root (node_or_fault bytes volume) ≡ (same_digest root (root_bytes bytes) && is_inode (node_or_fault bytes volume))
unfolding node_or_fault in_use_or_fault
inode_by_root root bytes volume =
    let p : Asks = is_inode_of root in
    let q : Asks = λ r. same_digest root (root_bytes bytes) && is_inode r in
    let none : false ≡ (same_digest root (root_bytes bytes) && false) = sym (and_false (same_digest root (root_bytes bytes))) in
    choose p q (eqb (field bytes 0 2) 0) (free_or_fault bytes) (in_use_or_fault bytes volume)
    (tests_leave p q (zero_test bytes 0 64 ∷ []) nodes.Free (λ f. none) none)
    (used_says p q bytes volume (λ f. none) (sym (and_true (same_digest root (root_bytes bytes)))) none)

-- bytes with another root are no inode of the blob
pub other_root : (root found : Digest) (place bytes : List ℕ) (volume : ℕ) → place ≡ bytes → found ≡ root_bytes place → same_digest root found ≡ false → false ≡ is_inode_of root (node_or_fault bytes volume)
other_root root found place bytes volume same is differ =
    let t : same_digest root (root_bytes bytes) ≡ false = ap (same_digest root) (sym (is ∙ ap root_bytes same)) ∙ differ in
    sym (inode_by_root root bytes volume ∙ ap (λ (b : Bool). b && is_inode (node_or_fault bytes volume)) t)

-- bytes with the root that read as an inode are that of the blob
pub same_root : (root found : Digest) (place bytes : List ℕ) (said volume : ℕ) (r : Result Node NodeFault) (i : Inode) → place ≡ bytes → found ≡ root_bytes place → same_digest root found ≡ true → said ≡ volume → r ≡ node_or_fault place said → r ≡ Ok (nodes.Inode i)
    → true ≡ is_inode_of root (node_or_fault bytes volume)
same_root root found place bytes said volume r i same is equal said_is read inode =
    let t : same_digest root (root_bytes bytes) ≡ true = ap (same_digest root) (sym (is ∙ ap root_bytes same)) ∙ equal in
    let n : node_or_fault bytes volume ≡ Ok (nodes.Inode i) = sym (λ k. node_or_fault (same k) (said_is k)) ∙ sym read ∙ inode in
    sym (inode_by_root root bytes volume ∙ (λ k. t k && is_inode (n k)))

-- ---- the flags

skip : (p : Asks) (b : Bool) (x y : Result Node NodeFault) → b ≡ false → p y ≡ false → p (cond b x y) ≡ false
skip p true x y e later = absurd cc
skip p false x y e later = later

-- bytes with flags are no free node
pub no_free : (bytes : List ℕ) (volume : ℕ) → field bytes 0 2 ≢ 0 → is_free (node_or_fault bytes volume) ≡ false
unfolding node_or_fault in_use_or_fault
no_free bytes volume set =
    let t : eqb (field bytes 0 2) 0 ≡ false = grind (arith, set) in
    skip is_free (eqb (field bytes 0 2) 0) (free_or_fault bytes) (in_use_or_fault bytes volume) t
    (used_says is_free (λ r. false) bytes volume (λ f. refl) refl refl)

pub used_place : (place bytes : List ℕ) (flags volume : ℕ) → place ≡ bytes → flags ≡ field place 0 2 → flags ≢ 0 → false ≡ is_free (node_or_fault bytes volume)
used_place place bytes flags volume same is set =
    sym (no_free bytes volume (λ none. set (is ∙ ap (λ (b : List ℕ). field b 0 2) same ∙ none)))
