-- The levels over whole lists: their lengths, their digests' lengths, and the root.
use Rattle.std.proofs.Common.{◌≡◌, ℕ, zero, suc, ◌*◌, ◌<◌, ◌≤◌, List, [], ◌∷◌, ◌++◌, length, map, replicate, refl, sym, ap, subst, ◌∙◌, arith, length-append, take_all}
use Rattle.std.specs.Prelude.{max}
use Rattle.std.specs.List.{range_with_len}
use Rattle.std.specs.Int.{div_ceil}
use Rattle.std.proofs.lemmas.List.FromFn.{length-map-range_with_len}
use Rattle.sha2.specs.Sha256.{sha256, digest_bytes}
use Rattle.spec_tree.specs.declared.Digest.{Digest}
use Rattle.spec_tree.specs.Tree.{block_digest, block_message, heading, filled, data_blocks, piece, level_0, level_above, level_of, levels_of, root_of, first_digest, digests_at}
use Rattle.spec_tree.proofs.SizesLemmas.{digests_at-top, digests_at-below, levels_of-is}

-- SHA-256 gives four bytes for each word of the hash value
length-digest_bytes : (h : List ℕ) (n : ℕ) → length (digest_bytes h n) ≡ 4 * n
unfolding digest_bytes
length-digest_bytes h zero = refl
length-digest_bytes h (suc n) = simp length-append (omega (arith, length-digest_bytes h n))

pub length-sha256 : (m : List ℕ) → length (sha256 m) ≡ 32
unfolding sha256
length-sha256 m = length-digest_bytes _ 8

-- a digest has 32 bytes
pub length-block_digest : (level offset : ℕ) (bytes : List ℕ) → length (block_digest level offset bytes).0 ≡ 32
unfolding block_digest
length-block_digest level offset bytes = length-sha256 _

-- a block without data is hashed as the empty blob
pub block_digest-none : (offset : ℕ) → (block_digest 0 offset []).0 ≡ sha256 (replicate 12 0)
unfolding block_digest
block_digest-none offset = refl

-- the message of a block with data
pub block_message-some : (level offset : ℕ) (bytes : List ℕ) → 0 < length bytes
    → block_message level offset bytes ≡ heading level offset (length bytes) ++ filled bytes
block_message-some zero offset [] h = absurd (omega (arith, h))
block_message-some zero offset (b ∷ bytes) h = refl
block_message-some (suc level) offset bytes h = refl

-- how many digests a level has
pub length-level_0 : (bytes : List ℕ) → length (level_0 bytes) ≡ max 1 (data_blocks (length bytes))
unfolding level_0
length-level_0 bytes = length-map-range_with_len _ 0 _

pub length-level_above : (level : ℕ) (digests : List Digest) → length (level_above level digests) ≡ div_ceil (length digests) 256
unfolding level_above
length-level_above level digests = length-map-range_with_len _ 0 _

pub length-level_of : (bytes : List ℕ) (level : ℕ) → length (level_of bytes level) ≡ digests_at (length bytes) level
unfolding level_of digests_at
length-level_of bytes zero = length-level_0 bytes
length-level_of bytes (suc level) =
    length-level_above (suc level) (level_of bytes level) ∙ ap (λ (n : ℕ). div_ceil n 256) (length-level_of bytes level)

-- a list of one digest is its first
one-first : (digests : List Digest) → length digests ≡ 1 → digests ≡ first_digest digests ∷ []
one-first [] e = absurd (omega (arith, e))
one-first (d ∷ []) e = refl
one-first (d ∷ f ∷ ds) e = absurd (omega (arith, e))

-- the highest level is the root alone
pub level_of-top : (bytes : List ℕ) → level_of bytes (levels_of (length bytes)) ≡ root_of bytes ∷ []
unfolding root_of
level_of-top bytes = one-first _ (length-level_of bytes _ ∙ digests_at-top (length bytes))

-- each level below has more digests than one
pub level_of-below : (bytes : List ℕ) (level : ℕ) → level < levels_of (length bytes) → 1 < length (level_of bytes level)
level_of-below bytes level h =
    subst (λ (n : ℕ). 1 < n) (sym (length-level_of bytes level)) (digests_at-below (length bytes) level h)

-- wherever a level has one digest and those below have more, that digest is the root
pub root_of-is : (bytes : List ℕ) (level : ℕ) (digest : Digest) → level_of bytes level ≡ digest ∷ []
    → ((k : ℕ) → k < level → 1 < length (level_of bytes k)) → root_of bytes ≡ digest
unfolding root_of
root_of-is bytes level digest e below =
    let size = length bytes in
    let top : digests_at size level ≡ 1 = sym (length-level_of bytes level) ∙ ap length e in
    let n : levels_of size ≡ level =
    levels_of-is size level top (λ k h. subst (λ (j : ℕ). 1 < j) (length-level_of bytes k) (below k h)) in
    ap (λ (k : ℕ). first_digest (level_of bytes k)) n ∙ ap first_digest e

-- level 0 of at most one block
level_0-small : (bytes : List ℕ) → length bytes ≤ 8192 → level_0 bytes ≡ block_digest 0 0 bytes ∷ []
unfolding level_0
level_0-small bytes h =
    let one : max 1 (data_blocks (length bytes)) ≡ 1 = omega (arith, h) in
    ap (λ (n : ℕ). map (λ (i : ℕ). block_digest 0 (8192 * i) (piece bytes i)) (range_with_len 0 n)) one
    ∙ ap (λ (bs : List ℕ). block_digest 0 0 bs ∷ []) (take_all 8192 bytes h)

-- the root of at most one block is that block's digest
pub root_of-small : (bytes : List ℕ) → length bytes ≤ 8192 → root_of bytes ≡ block_digest 0 0 bytes
unfolding level_of
root_of-small bytes h =
    root_of-is bytes 0 _ (level_0-small bytes h) (λ k none. absurd (omega (arith, none)))
