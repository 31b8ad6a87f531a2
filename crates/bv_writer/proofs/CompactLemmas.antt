-- The digests of levels, joined: their bytes are those of the levels' blocks without what fills them,
-- and cut into blocks they are the blocks of digests.
use Rattle.std.proofs.Common.{◌≡◌, ℕ, zero, suc, ◌+◌, ◌-◌, ◌*◌, ◌<◌, ◌≤◌, List, [], ◌∷◌, ◌++◌, length, take, drop, map, replicate, refl, sym, ap, ◌∙◌, append_assoc, append-nil, length-append, length-drop, length-take, get_or, arith}
use Rattle.std.specs.Prelude.{min}
use Rattle.std.specs.List.{range_with_len, flat_map}
use Rattle.std.specs.Int.{div_ceil}
use Rattle.std.proofs.lemmas.List.{take_all, get_or-map, length-map}
use Rattle.std.proofs.lemmas.List.Concat.{flat_map-append}
use Rattle.std.proofs.lemmas.List.FromFn.{length-map-range_with_len, get_or-map-range_with_len}
use Rattle.std.proofs.Math.Seq.{take-add, take-nil, drop-nil, take-append-add, drop-append-add, take-append_seam}
use Rattle.spec_tree.specs.declared.Digest.{Digest}
use Rattle.spec_tree.specs.Tree.{data_blocks, digest_block, filled, level_0, level_above, level_of, levels_of, piece}
use Rattle.spec_tree.proofs.SizesLemmas.{range-suc}
use Rattle.spec_tree.proofs.TreeLemmas.{length-block_digest}
use Rattle.bv_merkle.specs.Built.{tree_levels}
use Rattle.bv_merkle.specs.Hasher.{AreDigests}
use Rattle.bv_merkle.specs.Levels.{all_blocks}
use Rattle.bv_merkle.proofs.LevelsLemmas.{AreDigests-append, AreDigests-made, map-range-same}
use Rattle.bv_writer.specs.Blocks.{data_of, digest_bytes}

-- digests take 32 bytes each
pub length-digest_bytes : (xs : List Digest) → AreDigests xs → length (digest_bytes xs) ≡ 32 * length xs
length-digest_bytes [] sized = refl
length-digest_bytes (x ∷ xs) sized =
    length-append x.0 (digest_bytes xs) ∙ omega (arith, sized.0, length-digest_bytes xs sized.1)

-- the first of them
pub digest_bytes-take : (n : ℕ) (xs : List Digest) → AreDigests xs → digest_bytes (take n xs) ≡ take (32 * n) (digest_bytes xs)
digest_bytes-take zero xs sized = refl
digest_bytes-take (suc n) [] sized = sym (take-nil (32 * suc n))
digest_bytes-take (suc n) (x ∷ xs) sized =
    let count : length x.0 + 32 * n ≡ 32 * suc n = omega (arith, sized.0) in
    ap (λ (bs : List ℕ). x.0 ++ bs) (digest_bytes-take n xs sized.1)
    ∙ sym (take-append-add x.0 (digest_bytes xs) (32 * n))
    ∙ ap (λ (k : ℕ). take k (x.0 ++ digest_bytes xs)) count

-- and the rest
pub digest_bytes-drop : (n : ℕ) (xs : List Digest) → AreDigests xs → digest_bytes (drop n xs) ≡ drop (32 * n) (digest_bytes xs)
digest_bytes-drop zero xs sized = refl
digest_bytes-drop (suc n) [] sized = sym (drop-nil (32 * suc n))
digest_bytes-drop (suc n) (x ∷ xs) sized =
    let count : length x.0 + 32 * n ≡ 32 * suc n = omega (arith, sized.0) in
    digest_bytes-drop n xs sized.1
    ∙ sym (drop-append-add x.0 (digest_bytes xs) (32 * n))
    ∙ ap (λ (k : ℕ). drop k (x.0 ++ digest_bytes xs)) count

pub AreDigests-drop : (n : ℕ) (xs : List Digest) → AreDigests xs → AreDigests (drop n xs)
AreDigests-drop zero xs sized = sized
AreDigests-drop (suc n) [] sized = tt
AreDigests-drop (suc n) (x ∷ xs) sized = AreDigests-drop n xs sized.1

AreDigests-take : (n : ℕ) (xs : List Digest) → AreDigests xs → AreDigests (take n xs)
AreDigests-take zero xs sized = tt
AreDigests-take (suc n) [] sized = tt
AreDigests-take (suc n) (x ∷ xs) sized = (sized.0, AreDigests-take n xs sized.1)

-- the digests of block i
abbrev group_of : List Digest → ℕ → List Digest
group_of xs i = take 256 (drop (256 * i) xs)

-- piece i of the bytes has the digests of block i
group-piece : (xs : List Digest) (i : ℕ) → AreDigests xs → digest_bytes (group_of xs i) ≡ piece (digest_bytes xs) i
group-piece xs i sized =
    let from : 32 * (256 * i) ≡ 8192 * i = omega arith in
    digest_bytes-take 256 (drop (256 * i) xs) (AreDigests-drop (256 * i) xs sized)
    ∙ ap (λ (bs : List ℕ). take 8192 bs) (digest_bytes-drop (256 * i) xs sized)
    ∙ ap (λ (k : ℕ). take 8192 (drop k (digest_bytes xs))) from

-- cut into blocks, the bytes are the blocks of digests
pub data_of-digests : (xs : List Digest) → AreDigests xs → data_of (digest_bytes xs) ≡ all_blocks xs
unfolding all_blocks
data_of-digests xs sized =
    let long = length-digest_bytes xs sized in
    let count : data_blocks (length (digest_bytes xs)) ≡ div_ceil (length xs) 256 = omega (arith, long) in
    ap (λ (n : ℕ). map (λ (i : ℕ). filled (piece (digest_bytes xs) i)) (range_with_len 0 n)) count
    ∙ map-range-same _ _ 0 (div_ceil (length xs) 256) (λ i low. ap filled (sym (group-piece xs i sized)))

-- ---- a level's blocks

-- block i of a level
pub block-is : (xs : List Digest) (i : ℕ) (d : List ℕ) → i < div_ceil (length xs) 256 → get_or (all_blocks xs) i d ≡ digest_block xs i
unfolding all_blocks
block-is xs i d low = get_or-map-range_with_len (digest_block xs) 0 (div_ceil (length xs) 256) i i d low (omega arith)

pub length-all_blocks : (xs : List Digest) → length (all_blocks xs) ≡ div_ceil (length xs) 256
unfolding all_blocks
length-all_blocks xs = length-map-range_with_len (digest_block xs) 0 (div_ceil (length xs) 256)

-- the bytes of the digests up to block i, and those of one block more
pub join-more : (xs : List Digest) (i n : ℕ) (old out : List ℕ) → AreDigests xs → n ≡ min 256 (length xs - 256 * i)
    → out ≡ old ++ digest_bytes (take (256 * i) xs)
    → out ++ take (32 * n) (digest_block xs i) ≡ old ++ digest_bytes (take (256 * (i + 1)) xs)
join-more xs i n old out sized count is =
    let group = group_of xs i in
    let size : length group ≡ n = length-take 256 (drop (256 * i) xs) ∙ omega (arith, length-drop (256 * i) xs) in
    let long : length (digest_bytes group) ≡ 32 * n =
    length-digest_bytes group (AreDigests-take 256 _ (AreDigests-drop (256 * i) xs sized)) ∙ ap (λ (k : ℕ). 32 * k) size in
    let front : take (32 * n) (digest_block xs i) ≡ digest_bytes group =
    ap (λ (k : ℕ). take k (digest_block xs i)) (sym long) ∙ take-append_seam (digest_bytes group) (replicate (8192 - length (digest_bytes group)) 0) in
    let next : 256 * i + 256 ≡ 256 * (i + 1) = omega arith in
    ap (λ (bs : List ℕ). bs ++ take (32 * n) (digest_block xs i)) is
    ∙ ap (λ (bs : List ℕ). (old ++ digest_bytes (take (256 * i) xs)) ++ bs) front
    ∙ append_assoc old (digest_bytes (take (256 * i) xs)) (digest_bytes group)
    ∙ ap (λ (bs : List ℕ). old ++ bs)
    (sym (flat_map-append (λ (d : Digest). d.0) (take (256 * i) xs) group)
    ∙ ap digest_bytes (sym (take-add (256 * i) 256 xs) ∙ ap (λ (k : ℕ). take k xs) next))

-- all blocks of a level have all its digests
pub join-all : (xs : List Digest) (i : ℕ) (old out : List ℕ) → div_ceil (length xs) 256 ≤ i
    → out ≡ old ++ digest_bytes (take (256 * i) xs) → out ≡ old ++ digest_bytes xs
join-all xs i old out high is =
    is ∙ ap (λ (ds : List Digest). old ++ digest_bytes ds) (take_all (256 * i) xs (omega (arith, high)))

-- ---- the levels

-- the digests of a level have 32 bytes each
pub level_of-sized : (bytes : List ℕ) (level : ℕ) → AreDigests (level_of bytes level)
unfolding level_of level_0 level_above
level_of-sized bytes zero = AreDigests-made _ (λ i. length-block_digest 0 (8192 * i) (piece bytes i)) 0 _
level_of-sized bytes (suc level) = AreDigests-made _ (λ i. length-block_digest (suc level) (8192 * i) _) 0 _

-- the digests of the first levels
abbrev pub digests_of : List ℕ → ℕ → List Digest
digests_of bytes n = flat_map (level_of bytes) (range_with_len 0 n)

pub digests_of-sized : (bytes : List ℕ) (n : ℕ) → AreDigests (digests_of bytes n)
digests_of-sized bytes n = sized_from 0 n where
  sized_from : (a n : ℕ) → AreDigests (flat_map (level_of bytes) (range_with_len a n))
  sized_from a zero = tt
  sized_from a (suc n) = AreDigests-append (level_of bytes a) _ (level_of-sized bytes a) (sized_from (a + 1) n)

-- one level more
pub digests_of-more : (bytes : List ℕ) (n : ℕ) → digest_bytes (digests_of bytes n) ++ digest_bytes (level_of bytes n) ≡ digest_bytes (digests_of bytes (n + 1))
digests_of-more bytes n =
    let next : n + 1 ≡ suc n = omega arith in
    let here : 0 + n ≡ n = omega arith in
    let one : digests_of bytes (n + 1) ≡ digests_of bytes n ++ level_of bytes n =
    ap (λ (k : ℕ). digests_of bytes k) next
    ∙ ap (flat_map (level_of bytes)) (range-suc 0 n)
    ∙ flat_map-append (level_of bytes) (range_with_len 0 n) ((0 + n) ∷ [])
    ∙ ap (λ (k : ℕ). digests_of bytes n ++ (level_of bytes k ++ [])) here
    ∙ ap (λ (ds : List Digest). digests_of bytes n ++ ds) (append-nil (level_of bytes n)) in
    sym (flat_map-append (λ (d : Digest). d.0) (digests_of bytes n) (level_of bytes n)) ∙ ap digest_bytes (sym one)

-- the blocks of level i, among those of all levels
pub row-is : {X : Type 0} (items : X → List (List ℕ)) (rows : List X) (bytes : List ℕ) (i : ℕ) (row : X)
    → map items rows ≡ tree_levels bytes → i < length rows → row ≡ get_or rows i row
    → items row ≡ all_blocks (level_of bytes i)
row-is items rows bytes i row same low is =
    let long : length rows ≡ levels_of (length bytes) =
    sym (length-map rows items) ∙ ap length same ∙ length-map-range_with_len (λ level. all_blocks (level_of bytes level)) 0 (levels_of (length bytes)) in
    ap items is ∙ sym (get_or-map items rows i row (items row) low)
    ∙ ap (λ ls. get_or ls i (items row)) same
    ∙ get_or-map-range_with_len (λ level. all_blocks (level_of bytes level)) 0 (levels_of (length bytes)) i i (items row) (omega arith) (omega arith)

-- how many levels there are
pub rows-are : {X : Type 0} (items : X → List (List ℕ)) (rows : List X) (bytes : List ℕ) → map items rows ≡ tree_levels bytes → length rows ≡ levels_of (length bytes)
rows-are items rows bytes same =
    sym (length-map rows items) ∙ ap length same ∙ length-map-range_with_len (λ level. all_blocks (level_of bytes level)) 0 (levels_of (length bytes))
