-- The counts of well-formed metadata are those of inodes, of set bits and of nodes in use.
use Rattle.std.proofs.Common.{◌≡◌, ℕ, zero, suc, ◌+◌, ◌<◌, ◌≤◌, ◌⊎◌, List, [], ◌∷◌, ◌++◌, length, Bool, true, false, cond, ltb, eqb, ◌&&◌, ◌||◌, Result, Ok, Err, refl, ap, sym, ◌∙◌, subst, inl, inr, arith, length-append}
use Rattle.std.proofs.lemmas.Bool.{cases_eq}
use Rattle.std.proofs.lemmas.List.Sums.{sum_by-cons, sum_by-append}
use Rattle.std.specs.Prelude.{IsOk, is_ok, sum_by, count_by}
use Rattle.spec_record.specs.declared.node_fault.NodeFault.{NodeFault}
use Rattle.spec_image.specs.Chain.{Nodes, BlobRecord, chain}
use Rattle.spec_image.specs.Metadata.{Metadata}
use Rattle.spec_image.specs.WellFormed.{read_of, records_below, records_of, count_below, chains_with, is_inode, is_container}
use Rattle.spec_image.specs.WellFormedParts.{WellFormed, is_used}
use Rattle.spec_image.proofs.ChainLemmas.{AllVisited, chain_nodes}

abbrev pub count : Bool → ℕ
count b = cond b 1 0

-- every inode below n has a chain that reads
abbrev ChainsRead : Nodes → ℕ → ℕ → Type 0
ChainsRead ns blocks n = (k : ℕ) → k < n → is_inode (ns.read k) ≡ true → IsOk (chain ns blocks k)

pub true_or_false : (b : Bool) → (b ≡ true) ⊎ (b ≡ false)
true_or_false true = inl refl
true_or_false false = inr refl

-- no chain reads but an inode's
no_inode : (ns : Nodes) (blocks k : ℕ) (f : NodeFault) → (is_inode (ns.read k) ≡ true → IsOk (chain ns blocks k)) → chain ns blocks k ≡ Err f → is_inode (ns.read k) ≡ false
no_inode ns blocks k f reads e =
    elim (true_or_false (is_inode (ns.read k))) [
      | inl is_one ↦ let bad : is_ok (chain ns blocks k) ≡ false = ap is_ok e in let good = reads is_one in absurd cc
      | inr no_one ↦ no_one
    ]

one_read : (ns : Nodes) (blocks k : ℕ) (r : Result BlobRecord NodeFault) → (is_inode (ns.read k) ≡ true → IsOk (chain ns blocks k)) → chain ns blocks k ≡ r → length (read_of r) ≡ count (is_inode (ns.read k))
one_read ns blocks k (Ok b) reads e = sym (ap count (chain_nodes ns blocks k b e).inode)
one_read ns blocks k (Err f) reads e = sym (ap count (no_inode ns blocks k f reads e))

pub inode_count : (ns : Nodes) (blocks n : ℕ) → ChainsRead ns blocks n → length (records_below ns blocks n) ≡ count_below n (λ k. is_inode (ns.read k))
unfolding records_below count_below
inode_count ns blocks zero reads = refl
inode_count ns blocks (suc n) reads =
    omega (arith, length-append (records_below ns blocks n) (read_of (chain ns blocks n)), inode_count ns blocks n (λ k lt. reads k (omega (arith, lt))), one_read ns blocks n (chain ns blocks n) (reads n (omega arith)) refl)

-- ---- sums over numbers

unfoldable pub sum_below : ℕ → (ℕ → ℕ) → ℕ
sum_below zero f = 0
sum_below (suc n) f = sum_below n f + f n

pub sum_add : (n : ℕ) (f g h : ℕ → ℕ) → ((k : ℕ) → k < n → h k ≡ f k + g k) → sum_below n h ≡ sum_below n f + sum_below n g
unfolding sum_below
sum_add zero f g h e = refl
sum_add (suc n) f g h e = omega (arith, sum_add n f g h (λ k lt. e k (omega arith)), e n (omega arith))

pub sum_zero : (n : ℕ) → sum_below n (λ _. 0) ≡ 0
unfolding sum_below
sum_zero zero = refl
sum_zero (suc n) = omega (arith, sum_zero n)

sum_count : (n : ℕ) (f : ℕ → ℕ) (test : ℕ → Bool) → ((k : ℕ) → k < n → f k ≡ count (test k)) → sum_below n f ≡ count_below n test
unfolding sum_below count_below
sum_count zero f test e = refl
sum_count (suc n) f test e = omega (arith, sum_count n f test (λ k lt. e k (omega arith)), e n (omega arith))

sum_none : (n x : ℕ) → n ≤ x → sum_below n (λ k. count (eqb x k)) ≡ 0
unfolding sum_below
sum_none zero x le = refl
sum_none (suc n) x le =
    let last : eqb x n ≡ false = grind (arith, le) in
    let here : count (eqb x n) ≡ 0 = ap count last in
    omega (arith, sum_none n x (omega (arith, le)), here)

-- one number, once
sum_one : (n x : ℕ) → x < n → sum_below n (λ k. count (eqb x k)) ≡ 1
unfolding sum_below
sum_one zero x lt = absurd (omega (arith, lt))
sum_one (suc n) x lt =
    elim (cases_eq x n) [
      | inl is ↦
          let last : eqb x n ≡ true = grind (arith, is) in
          let here : count (eqb x n) ≡ 1 = ap count last in
          omega (arith, sum_none n x (omega (arith, is)), here)
      | inr other ↦
          let last : eqb x n ≡ false = grind (arith, other) in
          let here : count (eqb x n) ≡ 0 = ap count last in
          omega (arith, sum_one n x (omega (arith, lt, other)), here)
    ]

-- ---- nodes

unfoldable pub AllBelow : ℕ → List ℕ → Type 0
AllBelow n [] = Unit {0}
AllBelow n (x ∷ xs) = (x < n) × AllBelow n xs

sum_list : (n : ℕ) (xs : List ℕ) → AllBelow n xs → sum_below n (λ k. count_by (λ x. eqb x k) xs) ≡ length xs
unfolding AllBelow
sum_list n [] all = sum_zero n
sum_list n (x ∷ xs) all =
    omega (arith, sum_add n (λ k. count (eqb x k)) (λ k. count_by (λ y. eqb y k) xs) (λ k. count_by (λ y. eqb y k) (x ∷ xs)) (λ k lt. sum_by-cons (λ y. count (eqb y k)) x xs), sum_one n x all.0, sum_list n xs all.1)

unfoldable pub AllNodesBelow : ℕ → List BlobRecord → Type 0
AllNodesBelow n [] = Unit {0}
AllNodesBelow n (b ∷ bs) = AllBelow n b.nodes × AllNodesBelow n bs

sum_records : (n : ℕ) (bs : List BlobRecord) → AllNodesBelow n bs → sum_below n (chains_with bs) ≡ sum_by (λ b. length b.nodes) bs
unfolding AllNodesBelow
sum_records n [] all = sum_zero n
sum_records n (b ∷ bs) all =
    omega (arith, sum_add n (λ k. count_by (λ x. eqb x k) b.nodes) (chains_with bs) (chains_with (b ∷ bs)) (λ k lt. sum_by-cons (λ r. count_by (λ x. eqb x k) r.nodes) b bs), sum_list n b.nodes all.0, sum_records n bs all.1, sum_by-cons (λ r. length r.nodes) b bs)

visited_below : (ns : Nodes) (ks : List ℕ) → AllVisited ns ks → AllBelow ns.count ks
unfolding AllBelow
visited_below ns [] v = tt
visited_below ns (k ∷ ks) v = ((v.0).below, visited_below ns ks v.1)

append_below : (n : ℕ) (xs ys : List BlobRecord) → AllNodesBelow n xs → AllNodesBelow n ys → AllNodesBelow n (xs ++ ys)
unfolding AllNodesBelow
append_below n [] ys a b = b
append_below n (x ∷ xs) ys a b = (a.0, append_below n xs ys a.1 b)

read_below : (ns : Nodes) (blocks k : ℕ) (r : Result BlobRecord NodeFault) → k < ns.count → chain ns blocks k ≡ r → AllNodesBelow ns.count (read_of r)
unfolding AllNodesBelow AllBelow
read_below ns blocks k (Ok b) lt e =
    let c = chain_nodes ns blocks k b e in
    (subst (AllBelow ns.count) c.nodes (lt, visited_below ns c.rest c.visited), tt)
read_below ns blocks k (Err f) lt e = tt

pub records_nodes : (ns : Nodes) (blocks n : ℕ) → n ≤ ns.count → AllNodesBelow ns.count (records_below ns blocks n)
unfolding records_below AllNodesBelow
records_nodes ns blocks zero le = tt
records_nodes ns blocks (suc n) le =
    append_below ns.count (records_below ns blocks n) (read_of (chain ns blocks n)) (records_nodes ns blocks n (omega (arith, le))) (read_below ns blocks n (chain ns blocks n) (omega (arith, le)) refl)

-- ---- a node that is no container stands in its own chain alone

no_visit : (ns : Nodes) (k : ℕ) (ks : List ℕ) → is_container (ns.read k) ≡ false → AllVisited ns ks → count_by (λ x. eqb x k) ks ≡ 0
no_visit ns k [] not_one v = refl
no_visit ns k (x ∷ xs) not_one v =
    elim (cases_eq x k) [
      | inl is ↦
          let yes : is_container (ns.read k) ≡ true = subst (λ (n : ℕ). is_container (ns.read n) ≡ true) is (v.0).container in
          absurd (bad (is_container (ns.read k)) yes not_one)
      | inr other ↦
          let no_one : eqb x k ≡ false = grind (arith, other) in
          let here : count (eqb x k) ≡ 0 = ap count no_one in
          omega (arith, sum_by-cons (λ y. count (eqb y k)) x xs, here, no_visit ns k xs not_one v.1)
    ]
  where
    bad : (b : Bool) → b ≡ true → b ≡ false → ⊥
    bad true a b = cc
    bad false a b = cc

-- how often it stands in the chain from node n
in_chain : (ns : Nodes) (blocks k n : ℕ) (r : Result BlobRecord NodeFault) → is_container (ns.read k) ≡ false → (is_inode (ns.read n) ≡ true → IsOk (chain ns blocks n)) → chain ns blocks n ≡ r
    → chains_with (read_of r) k ≡ count (eqb n k && is_inode (ns.read k))
in_chain ns blocks k n (Ok b) not_one reads e =
    let c = chain_nodes ns blocks n b e in
    let rest = no_visit ns k c.rest not_one c.visited in
    let all : count_by (λ x. eqb x k) b.nodes ≡ count (eqb n k) + 0 =
    ap (count_by (λ x. eqb x k)) (sym c.nodes) ∙ sum_by-cons (λ y. count (eqb y k)) n c.rest ∙ ap (λ (x : ℕ). count (eqb n k) + x) rest in
    let sum : chains_with (b ∷ []) k ≡ count_by (λ x. eqb x k) b.nodes + 0 = sum_by-cons (λ x. count_by (λ y. eqb y k) x.nodes) b [] in
    elim (cases_eq n k) [
      | inl is ↦
          let yes : eqb n k ≡ true = grind (arith, is) in
          let one : is_inode (ns.read k) ≡ true = subst (λ (x : ℕ). is_inode (ns.read x) ≡ true) is c.inode in
          let right : count (eqb n k && is_inode (ns.read k)) ≡ 1 = rw (yes, one) refl in
          let left : count (eqb n k) ≡ 1 = ap count yes in
          omega (arith, sum, all, left, right)
      | inr other ↦
          let no_one : eqb n k ≡ false = grind (arith, other) in
          let right : count (eqb n k && is_inode (ns.read k)) ≡ 0 = rw no_one refl in
          let left : count (eqb n k) ≡ 0 = ap count no_one in
          omega (arith, sum, all, left, right)
    ]
in_chain ns blocks k n (Err f) not_one reads e =
    let none = no_inode ns blocks n f reads e in
    elim (cases_eq n k) [
      | inl is ↦
          let no_one : is_inode (ns.read k) ≡ false = subst (λ (x : ℕ). is_inode (ns.read x) ≡ false) is none in
          let yes : eqb n k ≡ true = grind (arith, is) in
          sym (rw (yes, no_one) refl)
      | inr other ↦ let no_one : eqb n k ≡ false = grind (arith, other) in sym (rw no_one refl)
    ]

in_chains : (ns : Nodes) (blocks k n : ℕ) → is_container (ns.read k) ≡ false → ChainsRead ns blocks n → chains_with (records_below ns blocks n) k ≡ count (ltb k n && is_inode (ns.read k))
unfolding records_below
in_chains ns blocks k zero not_one reads = let past : ltb k 0 ≡ false = grind arith in sym (rw past refl)
in_chains ns blocks k (suc n) not_one reads =
    let before = in_chains ns blocks k n not_one (λ x lt. reads x (omega (arith, lt))) in
    let here = in_chain ns blocks k n (chain ns blocks n) not_one (reads n (omega arith)) refl in
    let sum : chains_with (records_below ns blocks n ++ read_of (chain ns blocks n)) k ≡ chains_with (records_below ns blocks n) k + chains_with (read_of (chain ns blocks n)) k =
    sum_by-append (λ b. count_by (λ x. eqb x k) b.nodes) (records_below ns blocks n) (read_of (chain ns blocks n)) in
    omega (arith, sum, before, here, split (is_inode (ns.read k)) k n)
  where
    split : (b : Bool) (k n : ℕ) → count (ltb k n && b) + count (eqb n k && b) ≡ count (ltb k (suc n) && b)
    split true k n = grind arith
    split false k n = grind arith

-- each node stands in as many chains as it is in use
pub used_once : (m : Metadata) → WellFormed m → (k : ℕ) → k < m.nodes.count → chains_with (records_of m) k ≡ count (is_used m k)
used_once m w k lt =
    elim (true_or_false (is_container (m.nodes.read k))) [
      | inl is_one ↦ w.containers k lt is_one ∙ sym (ap count (either_true (is_inode (m.nodes.read k)) (is_container (m.nodes.read k)) is_one))
      | inr no_one ↦
          let below : ltb k m.nodes.count ≡ true = grind (arith, lt) in
          in_chains m.nodes m.super.geometry.blocks k m.nodes.count no_one w.chains
          ∙ ap (λ (b : Bool). count (b && is_inode (m.nodes.read k))) below ∙ sym (ap count (either_false (is_inode (m.nodes.read k)) (is_container (m.nodes.read k)) no_one))
    ]
  where
    either_true : (a b : Bool) → b ≡ true → (a || b) ≡ true
    either_true true b e = refl
    either_true false b e = e

    either_false : (a b : Bool) → b ≡ false → (a || b) ≡ a
    either_false true b e = refl
    either_false false b e = e

pub node_count : (m : Metadata) → WellFormed m → m.super.used_nodes ≡ count_below m.nodes.count (is_used m)
node_count m w =
    w.node_count ∙ sym (sum_records m.nodes.count (records_of m) (records_nodes m.nodes m.super.geometry.blocks m.nodes.count (omega arith)))
    ∙ sum_count m.nodes.count (chains_with (records_of m)) (is_used m) (used_once m w)

pub blob_count : (m : Metadata) → WellFormed m → m.super.blobs ≡ count_below m.nodes.count (λ k. is_inode (m.nodes.read k))
blob_count m w = w.blob_count ∙ inode_count m.nodes m.super.geometry.blocks m.nodes.count w.chains
