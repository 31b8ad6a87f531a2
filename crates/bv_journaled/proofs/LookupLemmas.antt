-- The first blob with a root among the inodes below a node.
use Rattle.std.proofs.Common.{◌≡◌, ◌<◌, ◌≤◌, ℕ, zero, suc, ◌+◌, ◌*◌, ◌/◌, ◌%◌, List, [], ◌∷◌, ◌++◌, take, drop, get_or, Bool, true, false, cond, Option, Some, None, Result, Ok, Err, refl, ap, sym, ◌∙◌, inl, inr, arith}
use Rattle.std.proofs.lemmas.Bool.{cases_lt}
use Rattle.std.proofs.lemmas.List.{get_or-take, get_or-drop}
use Rattle.std.specs.Prelude.{find, is_some}
use Rattle.spec_tree.specs.declared.Digest.{Digest}
use Rattle.std.specs.Option.{option_to_list}
use Rattle.spec_tree.specs.Order.{same_digest}
use Rattle.spec_disk.specs.Disk.{Blocks}
use Rattle.spec_record.specs.declared.node_fault.NodeFault.{NodeFault}
use Rattle.spec_record.specs.Geometry.{bitmap_blocks, node_blocks, node_map_in}
use Rattle.spec_record.specs.Node.{place_bytes}
use Rattle.spec_image.specs.Chain.{Nodes, BlobRecord, chain}
use Rattle.spec_image.specs.WellFormed.{read_of, records_below}
use Rattle.spec_meta.proofs.Frame.{chain_read}
use Rattle.spec_meta.proofs.MapLemmas.{named}
use Rattle.bv_txn.specs.Metas.{MetaBlocks}
use Rattle.bv_journaled.specs.Inodes.{is_inode_of}

find_past : (p : BlobRecord → Bool) (xs ys : List BlobRecord) → find p xs ≡ None → find p (xs ++ ys) ≡ find p ys
find_past p [] ys e = refl
find_past p (x ∷ xs) ys e = each (p x) e (λ is. find_past p xs ys is)
  where
    each : (t : Bool) → cond t (Some x) (find p xs) ≡ None → (find p xs ≡ None → find p (xs ++ ys) ≡ find p ys) → cond t (Some x) (find p (xs ++ ys)) ≡ find p ys
    each true is later = absurd cc
    each false is later = later is

find_first : (p : BlobRecord → Bool) (xs ys : List BlobRecord) (y : BlobRecord) → find p xs ≡ Some y → find p (xs ++ ys) ≡ Some y
find_first p [] ys y e = absurd cc
find_first p (x ∷ xs) ys y e = each (p x) e (λ is. find_first p xs ys y is)
  where
    each : (t : Bool) → cond t (Some x) (find p xs) ≡ Some y → (find p xs ≡ Some y → find p (xs ++ ys) ≡ Some y) → cond t (Some x) (find p (xs ++ ys)) ≡ Some y
    each true is later = is
    each false is later = later is

-- one node more
pub find_next : (p : BlobRecord → Bool) (ns : Nodes) (blocks k : ℕ) → find p (records_below ns blocks k) ≡ None → find p (records_below ns blocks (k + 1)) ≡ find p (read_of (chain ns blocks k))
unfolding records_below
find_next p ns blocks k none =
    let next : k + 1 ≡ suc k = omega arith in
    ap (λ (n : ℕ). find p (records_below ns blocks n)) next ∙ find_past p (records_below ns blocks k) (read_of (chain ns blocks k)) none

-- what was found below a node is found below each later one
pub find_stays : (p : BlobRecord → Bool) (ns : Nodes) (blocks k n : ℕ) (y : BlobRecord) → k ≤ n → find p (records_below ns blocks k) ≡ Some y → find p (records_below ns blocks n) ≡ Some y
unfolding records_below
find_stays p ns blocks k zero y le e = let z : k ≡ 0 = omega (arith, le) in ap (λ (m : ℕ). find p (records_below ns blocks m)) (sym z) ∙ e
find_stays p ns blocks k (suc n) y le e = elim (cases_lt n k) [
  | inl past ↦ let same : suc n ≡ k = omega (arith, past, le) in ap (λ (m : ℕ). find p (records_below ns blocks m)) same ∙ e
  | inr within ↦ find_first p (records_below ns blocks n) (read_of (chain ns blocks n)) y (find_stays p ns blocks k n y within e)
]

pub found_here : (p : BlobRecord → Bool) (ns : Nodes) (blocks k n : ℕ) (found : Option BlobRecord) → k < n → find p (records_below ns blocks k) ≡ None → found ≡ find p (read_of (chain ns blocks k)) → is_some found ≡ true
    → found ≡ find p (records_below ns blocks n)
found_here p ns blocks k n None lt none is some = absurd cc
found_here p ns blocks k n (Some y) lt none is some =
    sym (find_stays p ns blocks (k + 1) n y (omega (arith, lt)) (find_next p ns blocks k none ∙ sym is))

pub not_here : (p : BlobRecord → Bool) (ns : Nodes) (blocks k : ℕ) (found : Option BlobRecord) → find p (records_below ns blocks k) ≡ None → found ≡ find p (read_of (chain ns blocks k)) → is_some found ≡ false
    → find p (records_below ns blocks (k + 1)) ≡ None
not_here p ns blocks k None none is some = find_next p ns blocks k none ∙ sym is
not_here p ns blocks k (Some y) none is some = absurd cc

-- ---- the root of an inode

-- the root of a chain that reads is that of its inode
root_read : (root : Digest) (ns : Nodes) (blocks k : ℕ) (b : BlobRecord) → chain ns blocks k ≡ Ok b → is_inode_of root (ns.read k) ≡ same_digest root b.root
root_read root ns blocks k b e =
    let s = chain_read ns blocks k b e in
    ap (is_inode_of root) s.is_node ∙ sym (ap (λ (x : BlobRecord). same_digest root x.root) s.is)

-- the blob of an inode with the root has it
pub named_here : (root : Digest) (ns : Nodes) (blocks k : ℕ) (found : Option BlobRecord) → is_inode_of root (ns.read k) ≡ true → option_to_list found ≡ read_of (chain ns blocks k) → found ≡ find (named root) (read_of (chain ns blocks k))
named_here root ns blocks k found yes_is is = each (chain ns blocks k) refl found is
  where
    each : (r : Result BlobRecord NodeFault) → chain ns blocks k ≡ r → (o : Option BlobRecord) → option_to_list o ≡ read_of r → o ≡ find (named root) (read_of r)
    each (Err f) e None l = refl
    each (Err f) e (Some y) l = absurd cc
    each (Ok b) e None l = absurd cc
    each (Ok b) e (Some y) l =
        let same : y ≡ b = cc in
        let t : same_digest root b.root ≡ true = sym (root_read root ns blocks k b e) ∙ yes_is in
        rw t (ap (λ (x : BlobRecord). Some x) same)

-- no other node's blob has it
pub unnamed_here : (root : Digest) (ns : Nodes) (blocks k : ℕ) → is_inode_of root (ns.read k) ≡ false → None ≡ find (named root) (read_of (chain ns blocks k))
unnamed_here root ns blocks k not_it = each (chain ns blocks k) refl
  where
    each : (r : Result BlobRecord NodeFault) → chain ns blocks k ≡ r → None ≡ find (named root) (read_of r)
    each (Err f) e = refl
    each (Ok b) e =
        let t : same_digest root b.root ≡ false = sym (root_read root ns blocks k b e) ∙ not_it in
        rw t refl

-- ---- where a node stands

-- a node stands in a block of the node map
pub node_placed : (m : MetaBlocks) (bs : Blocks) (at k : ℕ) → bs ≡ m.blocks → at ≡ 1 + bitmap_blocks m.geometry + k / 128 → k < m.geometry.nodes → m.geometry.nodes % 128 ≡ 0
    → take 64 (drop (64 * (k % 128)) (get_or bs at [])) ≡ place_bytes (node_map_in m.geometry m.blocks) k
node_placed m bs at k same at_is within whole =
    let before : ℕ = 1 + bitmap_blocks m.geometry in
    let few : k / 128 < m.geometry.nodes / 128 = omega (arith, within, whole) in
    let inside : get_or (node_map_in m.geometry m.blocks) (k / 128) [] ≡ get_or m.blocks (before + k / 128) [] =
    get_or-take (node_blocks m.geometry) (drop before m.blocks) (k / 128) [] few ∙ get_or-drop before m.blocks (k / 128) [] in
    ap (λ (b : List ℕ). take 64 (drop (64 * (k % 128)) b)) ((λ i. get_or (same i) (at_is i) []) ∙ sym inside)
