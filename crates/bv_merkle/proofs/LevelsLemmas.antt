-- One digest more in a level: its block, and what it means for the levels above.
use Rattle.std.proofs.Common.{◌≡◌, ◌≢◌, ℕ, zero, suc, ◌+◌, ◌-◌, ◌*◌, ◌/◌, ◌%◌, ◌<◌, ◌≤◌, List, [], ◌∷◌, ◌++◌, length, take, drop, map, replicate, refl, sym, ap, ◌∙◌, append_assoc, append-nil, length-append, length-drop, arith}
use Rattle.std.specs.List.{range_with_len, flat_map}
use Rattle.std.proofs.lemmas.List.{map-append, take-append-le, drop-append-le, drop-drop, take_all, drop-replicate}
use borrow.Rule.Slice.PartMut.{put_mid}
use Rattle.std.proofs.lemmas.List.Concat.{flat_map-append}
use Rattle.std.proofs.lemmas.List.FromFn.{length-map-range_with_len}
use Rattle.std.proofs.Math.Seq.{take-append_seam, drop-append-add}
use Rattle.spec_tree.specs.declared.Digest.{Digest}
use Rattle.spec_tree.specs.Tree.{block_digest, filled, digest_block}
use Rattle.spec_tree.proofs.SizesLemmas.{range-suc}
use Rattle.spec_tree.proofs.TreeLemmas.{length-block_digest}
use Rattle.bv_merkle.specs.Levels.{whole_above, whole_blocks}
use Rattle.bv_merkle.specs.Hasher.{IsDigest, AreDigests, with_digest}

-- two functions that agree on a range give one list
pub map-range-same : {X : Type 0} (f g : ℕ → X) (a n : ℕ) → ((i : ℕ) → i < a + n → f i ≡ g i)
    → map f (range_with_len a n) ≡ map g (range_with_len a n)
map-range-same f g a zero same = refl
map-range-same f g a (suc n) same =
    ap (λ x. x ∷ map f (range_with_len (a + 1) n)) (same a (omega arith))
    ∙ ap (λ xs. g a ∷ xs) (map-range-same f g (a + 1) n (λ i h. same i (omega (arith, h))))

-- a list made from one index more
pub map-range-suc : {X : Type 0} (f : ℕ → X) (n : ℕ)
    → map f (range_with_len 0 (suc n)) ≡ map f (range_with_len 0 n) ++ f n ∷ []
map-range-suc f n =
    ap (map f) (range-suc 0 n) ∙ map-append f (range_with_len 0 n) ((0 + n) ∷ [])
    ∙ ap (λ k. map f (range_with_len 0 n) ++ f k ∷ []) (omega arith)

-- a whole block stays as digests are added
pub digest_block-front : (xs ys : List Digest) (i : ℕ) → 256 * (i + 1) ≤ length xs
    → digest_block (xs ++ ys) i ≡ digest_block xs i
digest_block-front xs ys i h =
    let from : 256 * i ≤ length xs = omega (arith, h) in
    let group : 256 ≤ length (drop (256 * i) xs) = omega (arith, h, length-drop (256 * i) xs) in
    ap (λ (zs : List Digest). filled (flat_map (λ (d : Digest). d.0) (take 256 zs))) (drop-append-le (256 * i) xs ys from)
    ∙ ap (λ (zs : List Digest). filled (flat_map (λ (d : Digest). d.0) zs)) (take-append-le 256 (drop (256 * i) xs) ys group)

-- so do all of them
digest_blocks-front : {X : Type 0} (f : ℕ → List ℕ → X) (xs ys : List Digest)
    → map (λ i. f i (digest_block (xs ++ ys) i)) (range_with_len 0 (length xs / 256))
    ≡ map (λ i. f i (digest_block xs i)) (range_with_len 0 (length xs / 256))
digest_blocks-front f xs ys =
    map-range-same _ _ 0 (length xs / 256) (λ i h. ap (f i) (digest_block-front xs ys i (omega (arith, h))))

-- the bytes of digests, one after another
abbrev bytes_of : List Digest → List ℕ
bytes_of xs = flat_map (λ d. d.0) xs

-- digests of one length take so many bytes
length-bytes_of : (xs : List Digest) → AreDigests xs → length (bytes_of xs) ≡ 32 * length xs
length-bytes_of [] sized = refl
length-bytes_of (x ∷ xs) sized =
    length-append x.0 (bytes_of xs) ∙ omega (arith, sized.0, length-bytes_of xs sized.1)

-- what is left of digests are digests
AreDigests-drop : (n : ℕ) (xs : List Digest) → AreDigests xs → AreDigests (drop n xs)
AreDigests-drop zero xs sized = sized
AreDigests-drop (suc n) [] sized = tt
AreDigests-drop (suc n) (x ∷ xs) sized = AreDigests-drop n xs sized.1

pub AreDigests-append : (xs ys : List Digest) → AreDigests xs → AreDigests ys → AreDigests (xs ++ ys)
AreDigests-append [] ys p q = q
AreDigests-append (x ∷ xs) ys p q = (p.0, AreDigests-append xs ys p.1 q)

-- a list made of digests of blocks
pub AreDigests-made : (f : ℕ → Digest) → ((i : ℕ) → IsDigest (f i)) → (a n : ℕ) → AreDigests (map f (range_with_len a n))
AreDigests-made f sized a zero = tt
AreDigests-made f sized a (suc n) = (sized a, AreDigests-made f sized (a + 1) n)

-- the digests of the last block, and one more
last-group : (xs : List Digest) (d : Digest)
    → digest_block (xs ++ d ∷ []) (length xs / 256) ≡ filled (bytes_of (drop (256 * (length xs / 256)) xs) ++ d.0)
last-group xs d =
    let from : 256 * (length xs / 256) ≤ length xs = omega arith in
    let group = drop (256 * (length xs / 256)) xs in
    let few : length (group ++ d ∷ []) ≤ 256 =
    omega (arith, length-append group (d ∷ []), length-drop (256 * (length xs / 256)) xs) in
    ap (λ (zs : List Digest). filled (bytes_of (take 256 zs))) (drop-append-le (256 * (length xs / 256)) xs (d ∷ []) from)
    ∙ ap (λ (zs : List Digest). filled (bytes_of zs)) (take_all 256 (group ++ d ∷ []) few)
    ∙ ap filled (flat_map-append (λ (e : Digest). e.0) group (d ∷ []))
    ∙ ap (λ (bs : List ℕ). filled (bytes_of group ++ bs)) (append-nil d.0)

-- 32 bytes put after the front of a block that is zero from there on
put-after : (front bytes : List ℕ) → length bytes ≡ 32
    → take (length front) (filled front) ++ bytes ++ drop (length front + 32) (filled front) ≡ filled (front ++ bytes)
put-after front bytes sized =
    let rest : ℕ = 8192 - length front in
    let zeros : drop (length front + 32) (filled front) ≡ replicate (8192 - length (front ++ bytes)) 0 =
    drop-append-add front (replicate rest 0) 32 ∙ drop-replicate 32 rest 0
    ∙ ap (λ (n : ℕ). replicate n 0) (omega (arith, length-append front bytes, sized)) in
    ap (λ (bs : List ℕ). bs ++ bytes ++ drop (length front + 32) (filled front)) (take-append_seam front (replicate rest 0))
    ∙ ap (λ (bs : List ℕ). front ++ bytes ++ bs) zeros

-- a digest put after the digests of a block
put-group : (place : ℕ) (group : List Digest) (d : Digest) (block : List ℕ) → AreDigests group → IsDigest d
    → length group ≡ place → (0 < place → block ≡ filled (bytes_of group))
    → with_digest block place d.0 ≡ filled (bytes_of group ++ d.0)
put-group zero [] d block sized one n last = ap (λ (k : ℕ). d.0 ++ replicate (8192 - k) 0) (sym one)
put-group zero (e ∷ es) d block sized one n last = absurd (omega (arith, n))
put-group (suc place) group d block sized one n last =
    let long : length (bytes_of group) ≡ 32 * suc place = length-bytes_of group sized ∙ ap (λ (k : ℕ). 32 * k) n in
    ap (λ (bs : List ℕ). with_digest bs (suc place) d.0) (last (omega arith))
    ∙ ap (λ (k : ℕ). take k (filled (bytes_of group)) ++ d.0 ++ drop (k + 32) (filled (bytes_of group))) (sym long)
    ∙ put-after (bytes_of group) d.0 one

-- a digest put into the last block
pub digest_block-put : (xs : List Digest) (d : Digest) (block : List ℕ) → AreDigests xs → IsDigest d
    → (0 < length xs → block ≡ digest_block xs ((length xs - 1) / 256))
    → with_digest block (length xs % 256) d.0 ≡ digest_block (xs ++ d ∷ []) (length xs / 256)
digest_block-put xs d block sized one last =
    let from = 256 * (length xs / 256) in
    let few : length (drop from xs) ≤ 256 = omega (arith, length-drop from xs) in
    put-group (length xs % 256) (drop from xs) d block (AreDigests-drop from xs sized) one
    (length-drop from xs ∙ omega arith)
    (λ some. last (omega (arith, some))
    ∙ ap (digest_block xs) (omega (arith, some))
    ∙ ap (λ (zs : List Digest). filled (bytes_of zs)) (take_all 256 (drop from xs) few))
    ∙ sym (last-group xs d)

-- how many blocks are whole, with one digest more
same-count : (xs : List Digest) (d : Digest) → (length xs + 1) % 256 ≢ 0 → length (xs ++ d ∷ []) / 256 ≡ length xs / 256
same-count xs d h = omega (arith, h, length-append xs (d ∷ []))

more-count : (xs : List Digest) (d : Digest) → (length xs + 1) % 256 ≡ 0 → length (xs ++ d ∷ []) / 256 ≡ suc (length xs / 256)
more-count xs d h = omega (arith, h, length-append xs (d ∷ []))

-- while the last block isn't whole, the whole ones stay
pub whole_above-same : (level : ℕ) (xs : List Digest) (d : Digest) → (length xs + 1) % 256 ≢ 0
    → whole_above level (xs ++ d ∷ []) ≡ whole_above level xs
unfolding whole_above
whole_above-same level xs d h =
    ap (λ (n : ℕ). map (λ (i : ℕ). block_digest level (8192 * i) (digest_block (xs ++ d ∷ []) i)) (range_with_len 0 n))
    (same-count xs d h)
    ∙ digest_blocks-front (λ (i : ℕ) (bs : List ℕ). block_digest level (8192 * i) bs) xs (d ∷ [])

pub whole_blocks-same : (xs : List Digest) (d : Digest) → (length xs + 1) % 256 ≢ 0
    → whole_blocks (xs ++ d ∷ []) ≡ whole_blocks xs
unfolding whole_blocks
whole_blocks-same xs d h =
    ap (λ (n : ℕ). map (digest_block (xs ++ d ∷ [])) (range_with_len 0 n)) (same-count xs d h)
    ∙ digest_blocks-front (λ (i : ℕ) (bs : List ℕ). bs) xs (d ∷ [])

-- once it is whole, there is one more
pub whole_above-more : (level : ℕ) (xs : List Digest) (d : Digest) → (length xs + 1) % 256 ≡ 0
    → whole_above level (xs ++ d ∷ [])
    ≡ whole_above level xs ++ block_digest level (8192 * (length xs / 256)) (digest_block (xs ++ d ∷ []) (length xs / 256)) ∷ []
unfolding whole_above
whole_above-more level xs d h =
    let made : ℕ → Digest = λ i. block_digest level (8192 * i) (digest_block (xs ++ d ∷ []) i) in
    ap (λ (n : ℕ). map made (range_with_len 0 n)) (more-count xs d h)
    ∙ map-range-suc made (length xs / 256)
    ∙ ap (λ (ys : List Digest). ys ++ made (length xs / 256) ∷ [])
    (digest_blocks-front (λ (i : ℕ) (bs : List ℕ). block_digest level (8192 * i) bs) xs (d ∷ []))

pub whole_blocks-more : (xs : List Digest) (d : Digest) → (length xs + 1) % 256 ≡ 0
    → whole_blocks (xs ++ d ∷ []) ≡ whole_blocks xs ++ digest_block (xs ++ d ∷ []) (length xs / 256) ∷ []
unfolding whole_blocks
whole_blocks-more xs d h =
    let made : ℕ → List ℕ = digest_block (xs ++ d ∷ []) in
    ap (λ (n : ℕ). map made (range_with_len 0 n)) (more-count xs d h)
    ∙ map-range-suc made (length xs / 256)
    ∙ ap (λ (ys : List (List ℕ)). ys ++ made (length xs / 256) ∷ [])
    (digest_blocks-front (λ (i : ℕ) (bs : List ℕ). bs) xs (d ∷ []))

-- the digests above are digests
pub whole_above-sized : (level : ℕ) (xs : List Digest) → AreDigests (whole_above level xs)
unfolding whole_above
whole_above-sized level xs = AreDigests-made _ (λ i. length-block_digest level (8192 * i) (digest_block xs i)) 0 _

pub length-whole_above : (level : ℕ) (xs : List Digest) → length (whole_above level xs) ≡ length xs / 256
unfolding whole_above
length-whole_above level xs = length-map-range_with_len _ 0 _

pub length-whole_blocks : (xs : List Digest) → length (whole_blocks xs) ≡ length xs / 256
unfolding whole_blocks
length-whole_blocks xs = length-map-range_with_len _ 0 _

-- what a write of 32 bytes at their place leaves
pub put_mid-first : (block from bytes digest : List ℕ) (place : ℕ) → place ≡ 0 → block ≡ replicate 8192 0 → bytes ≡ digest
    → put_mid (place * 32) (place * 32 + 32 - place * 32) block bytes ≡ with_digest from place digest
put_mid-first block from bytes digest zero p b e =
    ap (λ (bs : List ℕ). bytes ++ drop 32 bs) b
    ∙ ap (λ (bs : List ℕ). bytes ++ bs) (drop-replicate 32 8192 0)
    ∙ ap (λ (bs : List ℕ). bs ++ replicate (8192 - 32) 0) e
put_mid-first block from bytes digest (suc place) p b e = absurd (omega (arith, p))

pub put_mid-later : (block from bytes digest : List ℕ) (place : ℕ) → (place ≡ 0 → ⊥) → block ≡ from → bytes ≡ digest
    → put_mid (place * 32) (place * 32 + 32 - place * 32) block bytes ≡ with_digest from place digest
put_mid-later block from bytes digest zero p b e = absurd (p refl)
put_mid-later block from bytes digest (suc place) p b e =
    let n : ℕ = 32 * suc place in
    let same : suc place * 32 ≡ n = omega arith in
    let wide : n + 32 - n ≡ 32 = omega arith in
    ap (λ (k : ℕ). put_mid k (k + 32 - k) block bytes) same
    ∙ ap (λ (k : ℕ). put_mid n k block bytes) wide
    ∙ ap (λ (bs : List ℕ). take n block ++ (bytes ++ bs)) (drop-drop 32 n block)
    ∙ sym (append_assoc (take n block) bytes (drop (n + 32) block))
    ∙ ap (λ (bs : List ℕ). take n bs ++ bytes ++ drop (n + 32) bs) b
    ∙ ap (λ (bs : List ℕ). take n from ++ bs ++ drop (n + 32) from) e
