-- Free nodes counted: as many are free as aren't in use.
use Rattle.std.proofs.Common.{◌≡◌, ◌<◌, ◌≤◌, ℕ, zero, suc, ◌+◌, List, [], ◌∷◌, ◌++◌, length, Bool, true, false, eqb, ◌||◌, Result, Ok, Err, refl, ap, sym, ◌∙◌, subst, inl, inr, arith, length-append}
use Rattle.std.proofs.lemmas.Bool.{cases_lt, cases_eq}
use Rattle.std.proofs.lemmas.List.Sums.{sum_by-cons, sum_by-append}
use Rattle.std.specs.Prelude.{IsOk}
use Rattle.spec_record.specs.declared.node.Node.{Node}
use Rattle.spec_record.specs.declared.node.Node.TheVariants as nodes
use Rattle.spec_record.specs.declared.node_fault.NodeFault.{NodeFault}
use Rattle.spec_image.specs.Metadata.{Metadata}
use Rattle.spec_image.specs.WellFormed.{count_below, is_inode, is_container, is_well_formed}
use Rattle.spec_image.specs.WellFormedParts.{WellFormed, is_used}
use Rattle.spec_image.proofs.CountLemmas.{node_count}
use Rattle.spec_image.proofs.WellFormedLemmas.{well_formed_parts}
use Rattle.spec_meta.specs.Change.{times}
use Rattle.spec_meta.proofs.Counting.{count}
use Rattle.spec_meta.proofs.Frame.{is_free}
use Rattle.bv_journaled.specs.Publishing.{AreFree}

-- the node is free
abbrev pub free_at : Metadata → ℕ → Bool
free_at m k = is_free (m.nodes.read k)

-- the free nodes below node n, or some of them: each named once
pub record FreeBelow (m : Metadata) (n : ℕ) (ks : List ℕ) : Type 0 where
  pub many : length ks ≡ count_below n (free_at m)
  pub once : (k : ℕ) → times k ks ≤ 1
  pub free : (k : ℕ) → 1 ≤ times k ks → (k < n) × (m.nodes.read k ≡ Ok nodes.Free)

-- ---- a node is free or in use

pub free_is : (r : Result Node NodeFault) → is_free r ≡ true → r ≡ Ok nodes.Free
free_is (Ok nodes.Free) e = refl
free_is (Ok (nodes.Inode i)) e = absurd cc
free_is (Ok (nodes.Container c)) e = absurd cc
free_is (Err f) e = absurd cc

either_one : (r : Result Node NodeFault) → IsOk r → count (is_free r) + count (is_inode r || is_container r) ≡ 1
either_one (Ok nodes.Free) e = refl
either_one (Ok (nodes.Inode i)) e = refl
either_one (Ok (nodes.Container c)) e = refl
either_one (Err f) e = absurd cc

all_counted : (m : Metadata) (n : ℕ) → ((k : ℕ) → k < n → IsOk (m.nodes.read k)) → count_below n (free_at m) + count_below n (is_used m) ≡ n
unfolding count_below
all_counted m zero reads = refl
all_counted m (suc n) reads = omega (arith, all_counted m n (λ k lt. reads k (omega (arith, lt))), either_one (m.nodes.read n) (reads n (omega arith)))

-- as many nodes are free as aren't in use
pub free_count : (m : Metadata) → is_well_formed m ≡ true → count_below m.nodes.count (free_at m) + m.super.used_nodes ≡ m.nodes.count
free_count m formed =
    let w : WellFormed m = well_formed_parts m formed in
    omega (arith, all_counted m m.nodes.count w.nodes, node_count m w)

-- ---- one node more

pub none_free : (m : Metadata) → FreeBelow m 0 []
unfolding count_below
none_free m = record { many = refl; once = λ k. omega arith; free = λ k some. absurd (omega (arith, some)) }

pub times_push : (k x : ℕ) (xs : List ℕ) → times k (xs ++ x ∷ []) ≡ times k xs + count (eqb x k)
times_push k x xs = omega (arith, sum_by-append (λ y. count (eqb y k)) xs (x ∷ []), sum_by-cons (λ y. count (eqb y k)) x [])

-- a node that isn't free is passed by
pub pass_by : (m : Metadata) (n : ℕ) (ks : List ℕ) → FreeBelow m n ks → free_at m n ≡ false → FreeBelow m (n + 1) ks
unfolding count_below
pass_by m n ks below t =
    let one : n + 1 ≡ suc n = omega arith in
    let here : count (free_at m n) ≡ 0 = ap count t in
    record {
      many = subst (λ (x : ℕ). length ks ≡ count_below x (free_at m)) (sym one) (omega (arith, below.many, here));
      once = below.once;
      free = λ k some. let was = below.free k some in (omega (arith, was.0), was.1);
    }

-- a free node is added
pub add_free : (m : Metadata) (n : ℕ) (ks : List ℕ) → FreeBelow m n ks → free_at m n ≡ true → FreeBelow m (n + 1) (ks ++ n ∷ [])
unfolding count_below
add_free m n ks below t =
    let free : m.nodes.read n ≡ Ok nodes.Free = free_is (m.nodes.read n) t in
    let one : n + 1 ≡ suc n = omega arith in
    let here : count (free_at m n) ≡ 1 = ap count t in
    record {
      many = subst (λ (x : ℕ). length (ks ++ n ∷ []) ≡ count_below x (free_at m)) (sym one) (omega (arith, below.many, here, length-append ks (n ∷ [])));
      once = λ k. elim (cases_lt 0 (times k ks)) [
        | inl old ↦
            let other : eqb n k ≡ false = let less = (below.free k (omega (arith, old))).0 in grind (arith, less) in
            let none : count (eqb n k) ≡ 0 = ap count other in
            omega (arith, times_push k n ks, none, below.once k)
        | inr none ↦ omega (arith, times_push k n ks, none, few (eqb n k))
      ];
      free = λ k some. elim (cases_lt 0 (times k ks)) [
        | inl old ↦ let was = below.free k (omega (arith, old)) in (omega (arith, was.0), was.1)
        | inr none ↦ elim (cases_eq n k) [
          | inl is ↦ (omega (arith, is), subst (λ (x : ℕ). m.nodes.read x ≡ Ok nodes.Free) is free)
          | inr other ↦
              let differ : eqb n k ≡ false = grind (arith, other) in
              let zero_here : count (eqb n k) ≡ 0 = ap count differ in
              absurd (omega (arith, some, none, zero_here, times_push k n ks))
        ]
      ];
    }
  where
    few : (b : Bool) → count b ≤ 1
    few true = omega arith
    few false = omega arith

-- ---- as many as are asked for

-- some of the free nodes, so many
pub so_many : (m : Metadata) (n number : ℕ) (ks : List ℕ) → FreeBelow m n ks → n ≤ m.nodes.count → length ks ≡ number → AreFree m number ks
so_many m n number ks below within many = record {
  many = many;
  once = below.once;
  free = λ k some. let was = below.free k some in (omega (arith, was.0, within), was.1);
}

-- where there are as many, all of them are not fewer
pub all_of_them : (m : Metadata) (n number : ℕ) (ks : List ℕ) → is_well_formed m ≡ true → FreeBelow m n ks → n ≡ m.nodes.count → m.super.used_nodes + number ≤ m.nodes.count → length ks ≤ number → AreFree m number ks
all_of_them m n number ks formed below all room few =
    let most : length ks ≡ count_below m.nodes.count (free_at m) = below.many ∙ ap (λ (x : ℕ). count_below x (free_at m)) all in
    so_many m n number ks below (omega (arith, all)) (omega (arith, most, room, few, free_count m formed))
