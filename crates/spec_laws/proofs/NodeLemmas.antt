-- A node stands in at most one chain, and the chains have no more nodes than there are.
use Rattle.std.proofs.Common.{◌≡◌, ℕ, zero, suc, ◌<◌, ◌≤◌, List, [], ◌∷◌, length, Bool, true, false, eqb, refl, ap, inl, inr, arith}
use Rattle.std.proofs.lemmas.Bool.{cases_lt}
use Rattle.std.proofs.lemmas.List.Sums.{sum_by-cons}
use Rattle.std.specs.Prelude.{sum_by, count_by}
use Rattle.spec_image.specs.Chain.{BlobRecord}
use Rattle.spec_image.specs.Metadata.{Metadata}
use Rattle.spec_image.specs.WellFormed.{records_of, count_below, chains_with}
use Rattle.spec_image.specs.WellFormedParts.{WellFormed, is_used}
use Rattle.spec_image.proofs.CountLemmas.{count, AllBelow, AllNodesBelow, records_nodes, used_once, node_count}

pub at_most_one : (b : Bool) → count b ≤ 1
at_most_one true = omega arith
at_most_one false = omega arith

none_in_list : (n k : ℕ) (xs : List ℕ) → AllBelow n xs → n ≤ k → count_by (λ x. eqb x k) xs ≡ 0
unfolding AllBelow
none_in_list n k [] all past = refl
none_in_list n k (x ∷ xs) all past =
    let low : x < n = all.0 in
    let other : eqb x k ≡ false = grind (arith, low, past) in
    let here : count (eqb x k) ≡ 0 = ap count other in
    omega (arith, sum_by-cons (λ y. count (eqb y k)) x xs, here, none_in_list n k xs all.1 past)

none_past : (n k : ℕ) (bs : List BlobRecord) → AllNodesBelow n bs → n ≤ k → chains_with bs k ≡ 0
unfolding AllNodesBelow
none_past n k [] all past = refl
none_past n k (b ∷ bs) all past =
    omega (arith, sum_by-cons (λ r. count_by (λ x. eqb x k) r.nodes) b bs, none_in_list n k b.nodes all.0 past, none_past n k bs all.1 past)

pub one_chain : (m : Metadata) → WellFormed m → (k : ℕ) → chains_with (records_of m) k ≤ 1
one_chain m w k =
    elim (cases_lt k m.nodes.count) [
      | inl below ↦ omega (arith, used_once m w k below, at_most_one (is_used m k))
      | inr past ↦
          omega (arith, none_past m.nodes.count k (records_of m) (records_nodes m.nodes m.super.geometry.blocks m.nodes.count (omega arith)) past)
    ]

below_all : (n : ℕ) (test : ℕ → Bool) → count_below n test ≤ n
unfolding count_below
below_all zero test = omega arith
below_all (suc n) test = omega (arith, below_all n test, at_most_one (test n))

pub nodes_fit : (m : Metadata) → WellFormed m → sum_by (λ b. length b.nodes) (records_of m) ≤ m.nodes.count
nodes_fit m w = omega (arith, w.node_count, node_count m w, below_all m.nodes.count (is_used m))
