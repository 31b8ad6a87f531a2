-- The digests of the data, one window more.
use Rattle.std.proofs.Common.{◌≡◌, ℕ, zero, suc, ◌+◌, ◌*◌, ◌/◌, ◌%◌, ◌<◌, ◌≤◌, List, [], ◌∷◌, ◌++◌, length, get_or, take, drop, map, sym, ap, subst, ◌∙◌, add-zero, add-one, add-suc, append-nil, append_assoc, length-append, length-drop, arith}
use Rattle.std.specs.Prelude.{Some}
use Rattle.std.specs.List.{range_with_len, slice_get}
use Rattle.std.proofs.lemmas.List.{take-append-le, drop-append-le}
use Rattle.std.proofs.lemmas.List.FromFn.{length-map-range_with_len}
use Rattle.std.proofs.lemmas.Option.{get_or_from_slice_get}
use Rattle.std.proofs.Math.Seq.{drop-append-add}
use Rattle.spec_tree.specs.declared.Digest.{Digest}
use Rattle.spec_tree.specs.Tree.{block_digest, data_blocks, piece}
use Rattle.bv_merkle.specs.declared.hasher.RootHasher.{RootHasher}
use Rattle.bv_merkle.specs.Levels.{data_digests}
use Rattle.bv_merkle.specs.Hasher.{Holds, Stands}
use Rattle.bv_merkle.proofs.LevelsLemmas.{map-range-same, map-range-suc}

-- a list made of two ranges
map-range-two : {X : Type 0} (f : ℕ → X) (p q : ℕ)
    → map f (range_with_len 0 (p + q)) ≡ map f (range_with_len 0 p) ++ map (λ j. f (p + j)) (range_with_len 0 q)
map-range-two f p zero = ap (λ (n : ℕ). map f (range_with_len 0 n)) (add-zero p) ∙ sym (append-nil _)
map-range-two f p (suc q) =
    ap (λ (n : ℕ). map f (range_with_len 0 n)) (add-suc p q)
    ∙ map-range-suc f (p + q)
    ∙ ap (λ xs. xs ++ f (p + q) ∷ []) (map-range-two f p q)
    ∙ append_assoc (map f (range_with_len 0 p)) (map (λ j. f (p + j)) (range_with_len 0 q)) (f (p + q) ∷ [])
    ∙ ap (λ xs. map f (range_with_len 0 p) ++ xs) (sym (map-range-suc (λ j. f (p + j)) q))

-- the digests of the pieces of bytes that begin at an offset
abbrev pub digests_from : ℕ → List ℕ → ℕ → List Digest
digests_from offset bytes n = map (λ j. block_digest 0 (offset + 8192 * j) (piece bytes j)) (range_with_len 0 n)

-- a whole piece stays as bytes are added
piece-front : (m b : List ℕ) (i : ℕ) → 8192 * (i + 1) ≤ length m → piece (m ++ b) i ≡ piece m i
piece-front m b i h =
    let from : 8192 * i ≤ length m = omega (arith, h) in
    let long : 8192 ≤ length (drop (8192 * i) m) = omega (arith, h, length-drop (8192 * i) m) in
    ap (take 8192) (drop-append-le (8192 * i) m b from) ∙ take-append-le 8192 (drop (8192 * i) m) b long

-- the pieces past whole blocks are those of the bytes added
piece-past : (m b : List ℕ) (p j : ℕ) → length m ≡ 8192 * p → piece (m ++ b) (p + j) ≡ piece b j
piece-past m b p j e =
    ap (λ (n : ℕ). take 8192 (drop n (m ++ b))) (omega (arith, e)) ∙ ap (take 8192) (drop-append-add m b (8192 * j))

-- the digests of whole windows and of one more
pub data_digests-more : (m b : List ℕ) → length m % 65536 ≡ 0
    → data_digests (m ++ b) ≡ data_digests m ++ digests_from (length m) b (data_blocks (length b))
unfolding data_digests
data_digests-more m b whole =
    let p : ℕ = data_blocks (length m) in
    let q : ℕ = data_blocks (length b) in
    let blocks : length m ≡ 8192 * p = omega (arith, whole) in
    let f : ℕ → Digest = λ i. block_digest 0 (8192 * i) (piece (m ++ b) i) in
    ap (λ (n : ℕ). map f (range_with_len 0 n)) (omega (arith, whole, length-append m b))
    ∙ map-range-two f p q
    ∙ ap (λ (xs : List Digest). xs ++ map (λ j. f (p + j)) (range_with_len 0 q))
    (map-range-same f (λ (i : ℕ). block_digest 0 (8192 * i) (piece m i)) 0 p
    (λ i h. ap (block_digest 0 (8192 * i)) (piece-front m b i (omega (arith, h, blocks)))))
    ∙ ap (λ (xs : List Digest). data_digests m ++ xs)
    (map-range-same (λ (j : ℕ). f (p + j)) (λ (j : ℕ). block_digest 0 (length m + 8192 * j) (piece b j)) 0 q
    (λ j h. ap (λ (n : ℕ). block_digest 0 n (piece (m ++ b) (p + j))) (omega (arith, blocks))
    ∙ ap (block_digest 0 (length m + 8192 * j)) (piece-past m b p j blocks)))

pub length-data_digests : (m : List ℕ) → length (data_digests m) ≡ data_blocks (length m)
unfolding data_digests
length-data_digests m = length-map-range_with_len _ 0 _

-- ---- the loop of a window

pub window-begins : (h : RootHasher) (m : List ℕ) → Holds h m → Stands h 7 0 (data_digests m ++ [])
unfolding Holds
window-begins h m held = subst (λ (xs : List Digest). Stands h 7 0 xs) (sym (append-nil (data_digests m))) held.1

-- the index at which the next digest stands
pub window-index : (h : RootHasher) (m b : List ℕ) (i : ℕ) → Holds h m → h.taken % 65536 ≡ 0
    → length (data_digests m ++ digests_from h.taken b i) ≡ h.taken / 8192 + i
unfolding Holds
window-index h m b i held whole =
    length-append (data_digests m) (digests_from h.taken b i)
    ∙ omega (
      arith,
      held.0,
      whole,
      length-data_digests m,
      length-map-range_with_len (λ (j : ℕ). block_digest 0 (h.taken + 8192 * j) (piece b j)) 0 i,
    )

-- one digest more
pub window-more : (old : RootHasher) (new : RootHasher) (m b : List ℕ) (digests : List Digest) (d none : Digest) (i n : ℕ)
    → ((k : ℕ) → k < n → slice_get digests k ≡ Some (block_digest 0 (old.taken + 8192 * k) (piece b k))) → i < n
    → d ≡ get_or digests i none
    → Stands new 7 0 ((data_digests m ++ digests_from old.taken b i) ++ d ∷ [])
    → Stands new 7 0 (data_digests m ++ digests_from old.taken b (i + 1))
window-more old new m b digests d none i n made low read s =
    let one : d ≡ block_digest 0 (old.taken + 8192 * i) (piece b i) =
    read ∙ get_or_from_slice_get digests i _ none (made i low) in
    let all : (data_digests m ++ digests_from old.taken b i) ++ d ∷ [] ≡ data_digests m ++ digests_from old.taken b (i + 1) =
    append_assoc (data_digests m) (digests_from old.taken b i) (d ∷ [])
    ∙ ap (λ (xs : List Digest). data_digests m ++ xs)
    (ap (λ (e : Digest). digests_from old.taken b i ++ e ∷ []) one
    ∙ sym (map-range-suc (λ (j : ℕ). block_digest 0 (old.taken + 8192 * j) (piece b j)) i)
    ∙ ap (digests_from old.taken b) (sym (add-one i))) in
    subst (λ (xs : List Digest). Stands new 7 0 xs) all s

-- the window was taken
pub window-ends : (old new : RootHasher) (m b : List ℕ) → Holds old m → old.taken % 65536 ≡ 0
    → new.taken ≡ old.taken + length b
    → Stands new 7 0 (data_digests m ++ digests_from old.taken b (data_blocks (length b)))
    → Holds new (m ++ b)
unfolding Holds
window-ends old new m b held whole count s =
    let from : old.taken ≡ length m = held.0 in
    let multiple : length m % 65536 ≡ 0 = omega (arith, from, whole) in (
      count ∙ omega (arith, from, length-append m b),
      subst (λ (xs : List Digest). Stands new 7 0 xs)
          (ap (λ (n : ℕ). data_digests m ++ digests_from n b (data_blocks (length b))) from ∙ sym (data_digests-more m b multiple)) s,
    )
