-- The blob at the node that a hint tells, which no other has the root of; and free nodes from a node on.
use Rattle.std.proofs.Common.{◌≡◌, ◌<◌, ◌≤◌, ℕ, zero, suc, ◌+◌, List, [], ◌∷◌, ◌++◌, length, Bool, true, false, eqb, Option, Some, None, Ok, refl, ap, sym, ◌∙◌, subst, inl, inr, arith}
use Rattle.std.proofs.lemmas.Bool.{cases_lt, cases_eq}
use Rattle.std.proofs.lemmas.List.Sums.{sum_by-append}
use Rattle.std.specs.Prelude.{find, is_some}
use Rattle.spec_tree.specs.declared.Digest.{Digest}
use Rattle.spec_tree.specs.Order.{same_digest}
use Rattle.spec_record.specs.declared.node.Node.TheVariants as nodes
use Rattle.spec_image.specs.Chain.{Nodes, BlobRecord, chain}
use Rattle.spec_image.specs.Metadata.{Metadata}
use Rattle.spec_image.specs.Volume.{blob_in}
use Rattle.spec_image.specs.WellFormed.{read_of, records_below, blobs_named, is_well_formed}
use Rattle.spec_image.proofs.WellFormedLemmas.{well_formed_parts}
use Rattle.spec_meta.specs.Change.{times}
use Rattle.spec_meta.proofs.Counting.{count}
use Rattle.spec_meta.proofs.MapLemmas.{named, none_named}
use Rattle.bv_journaled.specs.Publishing.{AreFree}
use Rattle.bv_journaled.proofs.FreeingLemmas.{free_at, free_is, times_push}
use Rattle.bv_journaled.proofs.LookupLemmas.{find_stays, found_here}

some_counted : (bs : List BlobRecord) (root : Digest) (y : BlobRecord) → find (named root) bs ≡ Some y → 1 ≤ blobs_named bs root
some_counted bs root y is = elim (cases_lt 0 (blobs_named bs root)) [
  | inl some ↦ omega (arith, some)
  | inr none ↦ let no = none_named bs root (omega (arith, none)) in absurd cc
]

only_below : (root : Digest) (ns : Nodes) (blocks n k : ℕ) (y : BlobRecord) → k < n → blobs_named (records_below ns blocks n) root ≤ 1 → Some y ≡ find (named root) (read_of (chain ns blocks k)) → Some y ≡ find (named root) (records_below ns blocks n)
unfolding records_below
only_below root ns blocks zero k y lt once is = absurd (omega (arith, lt))
only_below root ns blocks (suc n) k y lt once is =
    let sum = sum_by-append (λ (b : BlobRecord). count (same_digest root b.root)) (records_below ns blocks n) (read_of (chain ns blocks n)) in
    elim (cases_lt k n) [
      | inl before ↦ sym (find_stays (named root) ns blocks n (suc n) y (omega arith) (sym (only_below root ns blocks n k y before (omega (arith, once, sum)) is)))
      | inr past ↦
          let same : k ≡ n = omega (arith, past, lt) in
          let here = is ∙ ap (λ (j : ℕ). find (named root) (read_of (chain ns blocks j))) same in
          let one = some_counted (read_of (chain ns blocks n)) root y (sym here) in
          found_here (named root) ns blocks n (suc n) (Some y) (omega arith) (none_named (records_below ns blocks n) root (omega (arith, once, sum, one))) here refl
    ]

-- a blob that is read at some node is the one with its root
pub only_one : (m : Metadata) (root : Digest) (k : ℕ) (found : Option BlobRecord) → is_well_formed m ≡ true → k < m.nodes.count → found ≡ find (named root) (read_of (chain m.nodes m.super.geometry.blocks k)) → is_some found ≡ true → found ≡ blob_in m root
only_one m root k None formed within is some = absurd cc
only_one m root k (Some y) formed within is some = only_below root m.nodes m.super.geometry.blocks m.nodes.count k y within ((well_formed_parts m formed).roots root) is

-- ---- free nodes from some node on

-- free nodes below node n, each named once
pub record SomeFree (m : Metadata) (n : ℕ) (ks : List ℕ) : Type 0 where
  pub once : (k : ℕ) → times k ks ≤ 1
  pub below : (k : ℕ) → 1 ≤ times k ks → k < n
  pub free : (k : ℕ) → 1 ≤ times k ks → (k < m.nodes.count) × (m.nodes.read k ≡ Ok nodes.Free)

pub are_free : (m : Metadata) (n : ℕ) (ks : List ℕ) → SomeFree m n ks → AreFree m (length ks) ks
are_free m n ks some = record { many = refl; once = some.once; free = some.free }

pub no_nodes : (m : Metadata) (n : ℕ) → SomeFree m n []
no_nodes m n = record { once = λ k. omega arith; below = λ k some. absurd (omega (arith, some)); free = λ k some. absurd (omega (arith, some)) }

pub pass_one : (m : Metadata) (n : ℕ) (ks : List ℕ) → SomeFree m n ks → SomeFree m (n + 1) ks
pass_one m n ks some = record { once = some.once; below = λ k one. omega (arith, some.below k one); free = some.free }

pub add_one : (m : Metadata) (n : ℕ) (ks : List ℕ) → SomeFree m n ks → n < m.nodes.count → free_at m n ≡ true → SomeFree m (n + 1) (ks ++ n ∷ [])
add_one m n ks some within t = record {
  once = λ k. elim (cases_lt 0 (times k ks)) [
    | inl old ↦ omega (arith, times_push k n ks, other k (some.below k (omega (arith, old))), some.once k)
    | inr none ↦ omega (arith, times_push k n ks, none, few (eqb n k))
  ];
  below = λ k one. elim (cases_lt 0 (times k ks)) [
    | inl old ↦ omega (arith, some.below k (omega (arith, old)))
    | inr none ↦ omega (arith, here k one none)
  ];
  free = λ k one. elim (cases_lt 0 (times k ks)) [
    | inl old ↦ some.free k (omega (arith, old))
    | inr none ↦ (
      omega (arith, here k one none, within),
      subst (λ (x : ℕ). m.nodes.read x ≡ Ok nodes.Free) (here k one none) (free_is (m.nodes.read n) t),
    )
  ];
}
  where
    few : (b : Bool) → count b ≤ 1
    few true = omega arith
    few false = omega arith

    other : (k : ℕ) → k < n → count (eqb n k) ≡ 0
    other k less = let differ : eqb n k ≡ false = grind (arith, less) in ap count differ

    here : (k : ℕ) → 1 ≤ times k (ks ++ n ∷ []) → times k ks ≤ 0 → n ≡ k
    here k one none = elim (cases_eq n k) [
      | inl is ↦ is
      | inr apart ↦
          let differ : eqb n k ≡ false = grind (arith, apart) in
          let zero_here : count (eqb n k) ≡ 0 = ap count differ in
          absurd (omega (arith, one, none, zero_here, times_push k n ks))
    ]
