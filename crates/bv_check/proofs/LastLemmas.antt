-- The last block of a blob of at most one window.
use Rattle.std.proofs.Common.{◌≡◌, ℕ, zero, suc, ◌+◌, ◌-◌, ◌*◌, ◌/◌, ◌%◌, ◌<◌, ◌≤◌, List, [], ◌∷◌, ◌++◌, length, map, take, drop, replicate, refl, sym, ap, ◌∙◌, arith, add-one, append-nil, append_assoc}
use Rattle.std.specs.Prelude.{max}
use Rattle.std.specs.List.{range_with_len}
use Rattle.std.specs.Int.{w32, w64, to_le_bytes, div_ceil}
use Rattle.std.proofs.lemmas.List.{drop-replicate}
use Rattle.std.proofs.lemmas.List.FromFn.{length-map-range_with_len}
use Rattle.sha2.specs.Sha256.{sha256}
use Rattle.spec_tree.specs.declared.Digest.{Digest}
use Rattle.spec_tree.specs.Tree.{block_digest, data_blocks, digest_block, filled, heading, level_0, level_above, level_of, piece, root_of}
use Rattle.spec_tree.proofs.TreeLemmas.{block_message-some, length-block_digest, length-level_0, root_of-is, root_of-small}
use Rattle.bv_merkle.specs.Hasher.{with_digest}
use Rattle.bv_merkle.proofs.LevelsLemmas.{AreDigests-made, digest_block-put, map-range-same, map-range-suc}
use Rattle.bv_merkle.proofs.WindowLemmas.{digests_from}
use Rattle.bv_check.specs.declared.last_block.LastBlock.{LastBlock}
use Rattle.bv_check.specs.Last.{last_digest}

-- the digest with the SHA-256 of these bytes
digest_with : List ℕ → Digest
digest_with bytes = record { 0 = sha256 bytes }

-- ---- a blob of one block

pub one_block : (bytes : List ℕ) (l : LastBlock) → 0 < length bytes → length bytes ≤ 8192
    → l.prefix ≡ to_le_bytes w64 0 ++ to_le_bytes w32 (length bytes) → l.block ≡ filled bytes → last_digest l ≡ root_of bytes
unfolding block_digest digest_with
one_block bytes l some few prefix block =
    ap digest_with ((λ t. prefix t ++ block t) ∙ sym (block_message-some 0 0 bytes some)) ∙ sym (root_of-small bytes few)

-- ---- a blob of two to 256 blocks

one_above : (ds : List Digest) → 1 < length ds → length ds ≤ 256 → level_above 1 ds ≡ block_digest 1 0 (digest_block ds 0) ∷ []
unfolding level_above
one_above ds some few =
    let one : div_ceil (length ds) 256 ≡ 1 = omega (arith, some, few) in
    ap (λ (n : ℕ). map (λ (i : ℕ). block_digest 1 (8192 * i) (digest_block ds i)) (range_with_len 0 n)) one

many_first : (bytes : List ℕ) → 8192 < length bytes → (k : ℕ) → k < 1 → 1 < length (level_of bytes k)
unfolding level_of
many_first bytes some zero low = omega (arith, some, length-level_0 bytes)
many_first bytes some (suc k) low = absurd (omega (arith, low))

top_root : (bytes : List ℕ) → 8192 < length bytes → length bytes ≤ 65536 → root_of bytes ≡ block_digest 1 0 (digest_block (level_0 bytes) 0)
unfolding level_of
top_root bytes some few =
    let count : length (level_0 bytes) ≡ max 1 (data_blocks (length bytes)) = length-level_0 bytes in
    root_of-is bytes 1 _ (one_above (level_0 bytes) (omega (arith, some, count)) (omega (arith, few, count))) (many_first bytes some)

pub some_blocks : (bytes : List ℕ) (l : LastBlock) → 8192 < length bytes → length bytes ≤ 65536
    → l.prefix ≡ to_le_bytes w64 1 ++ to_le_bytes w32 8192 → l.block ≡ digest_block (level_0 bytes) 0 → length l.block ≡ 8192
    → last_digest l ≡ root_of bytes
unfolding block_digest digest_with
some_blocks bytes l some few prefix block size =
    let b : List ℕ = digest_block (level_0 bytes) 0 in
    let long : length b ≡ 8192 = ap length (sym block) ∙ size in
    let full : b ≡ filled b = sym (ap (λ (n : ℕ). b ++ replicate (8192 - n) 0) long ∙ append-nil b) in
    ap digest_with ((λ t. prefix t ++ (block ∙ full) t) ∙ ap (λ (n : ℕ). heading 1 0 n ++ filled b) (sym long))
    ∙ sym (top_root bytes some few)

-- ---- one digest more

put_is : (block : List ℕ) (i : ℕ) (d : List ℕ) → (i ≡ 0 → block ≡ replicate 8192 0)
    → take (32 * i) block ++ (d ++ drop (32 * i + 32) block) ≡ with_digest block i d
put_is block zero d zeros = ap (λ (b : List ℕ). d ++ drop 32 b) (zeros refl) ∙ ap (λ (b : List ℕ). d ++ b) (drop-replicate 32 8192 0)
put_is block (suc i) d zeros = sym (append_assoc (take (32 * suc i) block) d (drop (32 * suc i + 32) block))

pub digests_more : (bytes : List ℕ) (i : ℕ) (block new : List ℕ) (d : Digest) → i < 256 → block ≡ digest_block (digests_from 0 bytes i) 0
    → d ≡ block_digest 0 (0 + 8192 * i) (piece bytes i) → new ≡ take (32 * i) block ++ (d.0 ++ drop (32 * i + 32) block)
    → new ≡ digest_block (digests_from 0 bytes (i + 1)) 0
digests_more bytes i block new d low is one put =
    let f : ℕ → Digest = λ j. block_digest 0 (0 + 8192 * j) (piece bytes j) in
    let xs : List Digest = digests_from 0 bytes i in
    let count : length xs ≡ i = length-map-range_with_len f 0 i in
    let place : i ≡ length xs % 256 = omega (arith, count, low) in
    let first : 0 ≡ length xs / 256 = omega (arith, count, low) in
    let last : 0 ≡ (length xs - 1) / 256 = omega (arith, count, low) in
    let all : xs ++ d ∷ [] ≡ digests_from 0 bytes (i + 1) =
    ap (λ (e : Digest). xs ++ e ∷ []) one ∙ sym (map-range-suc f i) ∙ ap (digests_from 0 bytes) (sym (add-one i)) in
    put ∙ put_is block i d.0 (λ none. is ∙ ap (λ (n : ℕ). digest_block (digests_from 0 bytes n) 0) none)
    ∙ ap (λ (n : ℕ). with_digest block n d.0) place
    ∙ digest_block-put xs d block (AreDigests-made f (λ j. length-block_digest 0 (0 + 8192 * j) (piece bytes j)) 0 i)
    (ap (λ (e : Digest). length e.0) one ∙ length-block_digest 0 (0 + 8192 * i) (piece bytes i)) (λ some. is ∙ ap (digest_block xs) last)
    ∙ (λ t. digest_block (all t) (sym first t))

pub digests_all : (bytes : List ℕ) (n : ℕ) → 0 < length bytes → n ≡ data_blocks (length bytes) → digests_from 0 bytes n ≡ level_0 bytes
unfolding level_0
digests_all bytes n some is =
    let g : ℕ → Digest = λ i. block_digest 0 (8192 * i) (piece bytes i) in
    map-range-same (λ (j : ℕ). block_digest 0 (0 + 8192 * j) (piece bytes j)) g 0 n
    (λ i low. ap (λ (o : ℕ). block_digest 0 o (piece bytes i)) (omega arith))
    ∙ ap (λ (k : ℕ). map g (range_with_len 0 k)) (omega (arith, is, some))
