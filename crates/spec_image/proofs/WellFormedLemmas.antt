-- The tests of well-formed metadata hold exactly where its parts do.
use Rattle.std.proofs.Common.{◌≡◌, ℕ, zero, suc, ◌+◌, ◌<◌, ◌≤◌, ◌⊎◌, List, [], ◌∷◌, ◌++◌, length, Bool, true, false, cond, not, leb, ltb, eqb, ◌&&◌, ◌||◌, Result, Ok, Err, refl, ap, sym, ◌∙◌, subst, inl, inr, arith}
use Rattle.std.proofs.lemmas.Bool.{cases_lt}
use Rattle.std.proofs.lemmas.List.Sums.{sum_by-cons}
use Rattle.std.specs.Prelude.{is_ok, sum_by, count_by}
use Rattle.std.specs.List.{list_all}
use Rattle.spec_tree.specs.declared.Digest.{Digest}
use Rattle.spec_tree.specs.Order.{same_digest}
use Rattle.spec_record.specs.declared.extent.Extent.{Extent}
use Rattle.spec_record.specs.declared.node_fault.NodeFault.{NodeFault}
use Rattle.spec_record.specs.Tests.{is_between}
use Rattle.spec_record.proofs.TestLemmas.{both_true, both, at_most, leb_true, equal, eqb_same}
use Rattle.spec_image.specs.Chain.{Nodes, BlobRecord, chain}
use Rattle.spec_image.specs.Metadata.{Metadata}
use Rattle.spec_image.specs.WellFormed.{read_of, records_below, records_of, all_below, covers, extents_with, chains_with, blobs_named, is_inode, is_container, nodes_read, chains_read, containers_placed, blocks_apart, roots_apart, bit_wanted, bits_right, blocks_in_extents, counts_right, is_well_formed}
use Rattle.spec_image.specs.WellFormedParts.{WellFormed}
use Rattle.spec_image.proofs.ChainLemmas.{AllExtents, chain_extents}
use Rattle.spec_image.proofs.SoundLemmas.{one_root}

-- ---- tests of numbers and lists

below_each : (n : ℕ) (test : ℕ → Bool) → all_below n test ≡ true → (k : ℕ) → k < n → test k ≡ true
unfolding all_below
below_each zero test e k lt = absurd (omega arith)
below_each (suc n) test e k lt =
    let parts = both_true (all_below n test) (test n) e in
    elim (cases_lt k n) [
      | inl less ↦ below_each n test parts.0 k less
      | inr last ↦ let is : n ≡ k = omega (arith, last, lt) in ap test (sym is) ∙ parts.1
    ]

each_below : (n : ℕ) (test : ℕ → Bool) → ((k : ℕ) → k < n → test k ≡ true) → all_below n test ≡ true
unfolding all_below
each_below zero test h = refl
each_below (suc n) test h = rw (each_below n test (λ k lt. h k (omega arith)), h n (omega arith)) refl

agree : (a w : Bool) → cond a w (not w) ≡ true → a ≡ w
agree true w e = sym e
agree false true e = absurd cc
agree false false e = refl

agrees : (a w : Bool) → a ≡ w → cond a w (not w) ≡ true
agrees true true e = refl
agrees true false e = absurd cc
agrees false true e = absurd cc
agrees false false e = refl

implies : (a b : Bool) → (not a || b) ≡ true → a ≡ true → b ≡ true
implies true b e is = e
implies false b e is = absurd cc

implied : (a b : Bool) → (a ≡ true → b ≡ true) → (not a || b) ≡ true
implied true b h = h refl
implied false b h = refl

-- ---- the blocks of extents

abbrev count : Bool → ℕ
count b = cond b 1 0

count_more : (d : ℕ) (e : Extent) (es : List Extent) → count_by (covers d) (e ∷ es) ≡ count (covers d e) + count_by (covers d) es
count_more d e es = sum_by-cons (λ x. cond (covers d x) 1 0) e es

past_extent : (blocks d : ℕ) (e : Extent) → (leb 1 e.start && is_between 1 e.len 65535 && leb (e.start + e.len) blocks) ≡ true → blocks ≤ d → covers d e ≡ false
past_extent blocks d e good past =
    let fits = at_most (e.start + e.len) blocks (both_true (leb 1 e.start && is_between 1 e.len 65535) (leb (e.start + e.len) blocks) good).1 in
    let over : ltb d (e.start + e.len) ≡ false = grind (arith, fits, past) in
    and_false (leb e.start d) (ltb d (e.start + e.len)) over
  where
    and_false : (a b : Bool) → b ≡ false → (a && b) ≡ false
    and_false true b e = e
    and_false false b e = refl

past_extents : (blocks d : ℕ) (es : List Extent) → AllExtents blocks es → blocks ≤ d → count_by (covers d) es ≡ 0
past_extents blocks d [] good past = refl
past_extents blocks d (e ∷ es) good past =
    let here : count (covers d e) ≡ 0 = ap count (past_extent blocks d e good.0 past) in
    omega (arith, count_more d e es, here, past_extents blocks d es good.1 past)

-- the extents of all blobs are in their ranges
unfoldable pub AllRecords : ℕ → List BlobRecord → Type 0
AllRecords blocks [] = Unit {0}
AllRecords blocks (b ∷ bs) = AllExtents blocks b.extents × AllRecords blocks bs

all_append : (blocks : ℕ) (xs ys : List BlobRecord) → AllRecords blocks xs → AllRecords blocks ys → AllRecords blocks (xs ++ ys)
unfolding AllRecords
all_append blocks [] ys a b = b
all_append blocks (x ∷ xs) ys a b = (a.0, all_append blocks xs ys a.1 b)

read_extents : (ns : Nodes) (blocks k : ℕ) (r : Result BlobRecord NodeFault) → chain ns blocks k ≡ r → AllRecords blocks (read_of r)
unfolding AllRecords
read_extents ns blocks k (Ok b) e = (chain_extents ns blocks k b e, tt)
read_extents ns blocks k (Err f) e = tt

pub records_extents : (ns : Nodes) (blocks n : ℕ) → AllRecords blocks (records_below ns blocks n)
unfolding records_below AllRecords
records_extents ns blocks zero = tt
records_extents ns blocks (suc n) = all_append blocks (records_below ns blocks n) (read_of (chain ns blocks n)) (records_extents ns blocks n) (read_extents ns blocks n (chain ns blocks n) refl)

pub past_records : (blocks d : ℕ) (bs : List BlobRecord) → AllRecords blocks bs → blocks ≤ d → extents_with bs d ≡ 0
unfolding AllRecords
past_records blocks d [] good past = refl
past_records blocks d (b ∷ bs) good past =
    omega (arith, sum_by-cons (λ x. count_by (covers d) x.extents) b bs, past_extents blocks d b.extents good.0 past, past_records blocks d bs good.1 past)

-- ---- the roots

named_more : (root : Digest) (b : BlobRecord) (bs : List BlobRecord) → blobs_named (b ∷ bs) root ≡ count (same_digest root b.root) + blobs_named bs root
named_more root b bs = sum_by-cons (λ x. cond (same_digest root x.root) 1 0) b bs

one_or_none : (b : Bool) → (b ≡ true) ⊎ (b ≡ false)
one_or_none true = inl refl
one_or_none false = inr refl

named_least : (all bs : List BlobRecord) (root : Digest) → list_all (λ b. leb (blobs_named all b.root) 1) bs ≡ true → (blobs_named bs root ≡ 0) ⊎ (blobs_named all root ≤ 1)
named_least all [] root e = inl refl
named_least all (b ∷ bs) root e =
    let parts = both_true (leb (blobs_named all b.root) 1) (list_all (λ x. leb (blobs_named all x.root) 1) bs) e in
    let here : blobs_named all b.root ≤ 1 = at_most (blobs_named all b.root) 1 parts.0 in
    elim (one_or_none (same_digest root b.root)) [
      | inl same ↦ inr (subst (λ (r : Digest). blobs_named all r ≤ 1) (sym (one_root root b.root same)) here)
      | inr other ↦ elim (named_least all bs root parts.1) [
        | inl none ↦ let zero_here : count (same_digest root b.root) ≡ 0 = ap count other in inl (omega (arith, named_more root b bs, zero_here, none))
        | inr few ↦ inr few
      ]
    ]

few_named : (all : List BlobRecord) → list_all (λ b. leb (blobs_named all b.root) 1) all ≡ true → (root : Digest) → blobs_named all root ≤ 1
few_named all e root = elim (named_least all all root e) [ inl none ↦ omega (arith, none) | inr few ↦ few ]

all_few : (all bs : List BlobRecord) → ((root : Digest) → blobs_named all root ≤ 1) → list_all (λ b. leb (blobs_named all b.root) 1) bs ≡ true
all_few all [] h = refl
all_few all (b ∷ bs) h = rw (leb_true (blobs_named all b.root) 1 (h b.root), all_few all bs h) refl

-- ---- both ways

module _ (m : Metadata) where
  abbrev bs : List BlobRecord
  bs = records_of m

  abbrev size : ℕ
  size = m.super.geometry.blocks

  apart : blocks_apart m ≡ true → (d : ℕ) → extents_with bs d ≤ 1
  apart e d =
      elim (cases_lt d size) [
        | inl within ↦ at_most (extents_with bs d) 1 (below_each size (λ x. leb (extents_with bs x) 1) e d within)
        | inr past ↦ omega (arith, past_records size d bs (records_extents m.nodes size m.nodes.count) past)
      ]

  pub well_formed_parts : is_well_formed m ≡ true → WellFormed m
  unfolding is_well_formed
  well_formed_parts e =
      let a = both_true _ (counts_right m) e in
      let b = both_true _ (bits_right m) a.0 in
      let c = both_true _ (roots_apart m) b.0 in
      let d = both_true _ (blocks_apart m) c.0 in
      let f = both_true _ (containers_placed m) d.0 in
      let g = both_true (nodes_read m) (chains_read m) f.0 in
      let counts = both_true _ (eqb m.super.used_nodes (sum_by (λ x. length x.nodes) bs)) a.1 in
      let first = both_true (eqb m.super.blobs (length bs)) (eqb m.super.used_blocks (1 + blocks_in_extents m)) counts.0 in
      record {
        nodes = λ k lt. below_each m.nodes.count (λ x. is_ok (m.nodes.read x)) g.0 k lt;
        chains = λ k lt is. implies (is_inode (m.nodes.read k)) (is_ok (chain m.nodes size k)) (below_each m.nodes.count (λ x. not (is_inode (m.nodes.read x)) || is_ok (chain m.nodes size x)) g.1 k lt) is;
        containers = λ k lt is. equal (chains_with bs k) 1 (implies (is_container (m.nodes.read k)) (eqb (chains_with bs k) 1) (below_each m.nodes.count (λ x. not (is_container (m.nodes.read x)) || eqb (chains_with bs x) 1) f.1 k lt) is);
        blocks = apart d.1;
        roots = few_named bs c.1;
        bits = λ x lt. agree (m.bit x) (bit_wanted m x) (below_each m.bit_count (λ y. cond (m.bit y) (bit_wanted m y) (not (bit_wanted m y))) b.1 x lt);
        blob_count = equal m.super.blobs (length bs) first.0;
        block_count = equal m.super.used_blocks (1 + blocks_in_extents m) first.1;
        node_count = equal m.super.used_nodes (sum_by (λ x. length x.nodes) bs) counts.1;
      }

  pub parts_well_formed : WellFormed m → is_well_formed m ≡ true
  unfolding is_well_formed
  parts_well_formed w =
      let nodes : nodes_read m ≡ true = each_below m.nodes.count (λ x. is_ok (m.nodes.read x)) w.nodes in
      let chains : chains_read m ≡ true = each_below m.nodes.count (λ x. not (is_inode (m.nodes.read x)) || is_ok (chain m.nodes size x)) (λ k lt. implied (is_inode (m.nodes.read k)) (is_ok (chain m.nodes size k)) (w.chains k lt)) in
      let containers : containers_placed m ≡ true = each_below m.nodes.count (λ x. not (is_container (m.nodes.read x)) || eqb (chains_with bs x) 1)
      (λ k lt. implied (is_container (m.nodes.read k)) (eqb (chains_with bs k) 1) (λ is. eqb_same (chains_with bs k) 1 (w.containers k lt is))) in
      let blocks : blocks_apart m ≡ true = each_below size (λ x. leb (extents_with bs x) 1) (λ k lt. leb_true (extents_with bs k) 1 (w.blocks k)) in
      let roots : roots_apart m ≡ true = all_few bs bs w.roots in
      let bits : bits_right m ≡ true = each_below m.bit_count (λ y. cond (m.bit y) (bit_wanted m y) (not (bit_wanted m y))) (λ k lt. agrees (m.bit k) (bit_wanted m k) (w.bits k lt)) in
      let one = eqb_same m.super.blobs (length bs) w.blob_count in
      let two = eqb_same m.super.used_blocks (1 + blocks_in_extents m) w.block_count in
      let three = eqb_same m.super.used_nodes (sum_by (λ x. length x.nodes) bs) w.node_count in
      let counts : counts_right m ≡ true = both _ _ (both _ _ one two) three in
      both _ _ (both _ _ (both _ _ (both _ _ (both _ _ (both _ _ nodes chains) containers) blocks) roots) bits) counts
