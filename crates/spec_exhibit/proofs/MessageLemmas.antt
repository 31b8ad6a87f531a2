-- A block's digest is SHA-256 of its message, and of one length alike messages have alike data.
use Rattle.std.proofs.Common.{◌≡◌, ◌<◌, ℕ, zero, suc, ◌-◌, ◌*◌, List, [], ◌∷◌, ◌++◌, length, take, drop, replicate, refl, sym, ap, subst, ◌∙◌, arith, get_or}
use Rattle.std.specs.Prelude.{Some, min, slice_get}
use Rattle.std.specs.List.{All, flat_map}
use Rattle.std.specs.Int.{div_ceil}
use Rattle.std.proofs.Math.Seq.{take-append_seam}
use Rattle.std.proofs.lemmas.List.{append_cancel_left, length-take, length-drop, length-append, length-replicate}
use Rattle.std.proofs.lemmas.List.Elements.{All-head, All-tail}
use Rattle.std.proofs.lemmas.List.FromFn.{get_or-map-range_with_len}
use Rattle.std.proofs.lemmas.Option.{slice_get-get_or}
use Rattle.sha2.specs.Sha256.{sha256}
use Rattle.spec_tree.specs.declared.Digest.{Digest}
use Rattle.spec_tree.specs.Tree.{block_message, block_digest, filled, heading, level_0, level_above, level_of, levels_of, root_of, digests_at}
use Rattle.spec_tree.proofs.SizesLemmas.{digests_at-top}
use Rattle.spec_tree.proofs.TreeLemmas.{length-level_of, level_of-top}
use Rattle.spec_exhibit.specs.Exhibit.{data_at, message_at}
use Rattle.spec_exhibit.proofs.BytesLemmas.{IsDigest, level_of-are, group-are}

-- ---- the digest of a block

-- a digest of these bytes
abbrev pub digest_of : List ℕ → Digest
digest_of bytes = record { 0 = bytes }

-- no data at level 0 stands at offset 0
block_digest-is : (level offset : ℕ) (bytes : List ℕ)
    → (level ≡ 0 → length bytes ≡ 0 → offset ≡ 0)
    → block_digest level offset bytes ≡ digest_of (sha256 (block_message level offset bytes))
unfolding block_digest
block_digest-is zero offset [] first =
    subst (λ (n : ℕ). block_digest 0 n [] ≡ digest_of (sha256 (block_message 0 n [])))
    (sym (first refl refl)) refl
block_digest-is zero offset (b ∷ bytes) first = refl
block_digest-is (suc level) offset bytes first = refl

-- a level above holds no block without data
data_at-first : (blob : List ℕ) (level index : ℕ) → index < digests_at (length blob) level
    → level ≡ 0 → length (data_at blob level index) ≡ 0 → 8192 * index ≡ 0
unfolding digests_at
data_at-first blob zero index lt is none =
    let left : length (data_at blob 0 index) ≡ min 8192 (length blob - 8192 * index) =
    simp (length-take, length-drop) refl in
    omega (arith, lt, none, left)
data_at-first blob (suc below) index lt is none = absurd (omega (arith, is))

level_of-at : (blob : List ℕ) (level index : ℕ) (d : Digest)
    → index < digests_at (length blob) level
    → get_or (level_of blob level) index d
    ≡ block_digest level (8192 * index) (data_at blob level index)
unfolding level_of level_0 level_above digests_at
level_of-at blob zero index d lt = get_or-map-range_with_len _ 0 _ index index d lt (omega arith)
level_of-at blob (suc below) index d lt =
    get_or-map-range_with_len _ 0 _ index index d
    (subst (λ (n : ℕ). index < div_ceil n 256) (sym (length-level_of blob below)) lt) (omega arith)

-- each digest of a tree is SHA-256 of its block's message
pub get_or-level_of : (blob : List ℕ) (level index : ℕ) (d : Digest)
    → index < digests_at (length blob) level
    → get_or (level_of blob level) index d ≡ digest_of (sha256 (message_at blob level index))
get_or-level_of blob level index d lt =
    level_of-at blob level index d lt
    ∙ block_digest-is level (8192 * index) (data_at blob level index)
    (data_at-first blob level index lt)

pub slice_get-level_of : (blob : List ℕ) (level index : ℕ) → index < digests_at (length blob) level
    → slice_get (level_of blob level) index
    ≡ Some (digest_of (sha256 (message_at blob level index)))
slice_get-level_of blob level index lt =
    let within : index < length (level_of blob level) =
    subst (λ (n : ℕ). index < n) (sym (length-level_of blob level)) lt in
    slice_get-get_or (level_of blob level) index (digest_of []) within
    ∙ ap (λ (d : Digest). Some d) (get_or-level_of blob level index (digest_of []) lt)

-- the root is SHA-256 of the message at the top
pub root_of-message : (blob : List ℕ)
    → (root_of blob).0 ≡ sha256 (message_at blob (levels_of (length blob)) 0)
root_of-message blob =
    let top : ℕ = levels_of (length blob) in
    let one : digests_at (length blob) top ≡ 1 = digests_at-top (length blob) in
    ap (λ (ds : List Digest). (get_or ds 0 (digest_of [])).0) (sym (level_of-top blob))
    ∙ ap (λ (d : Digest). d.0) (get_or-level_of blob top 0 (digest_of []) (omega (arith, one)))

-- ---- data from messages

-- what was filled up is in front
pub filled-same : (a b : List ℕ) → length a ≡ length b → filled a ≡ filled b → a ≡ b
filled-same a b long same =
    sym (take-append_seam a (replicate (8192 - length a) 0))
    ∙ ap (λ (x : List ℕ). take (length a) x) same
    ∙ ap (λ (n : ℕ). take n (filled b)) long
    ∙ take-append_seam b (replicate (8192 - length b) 0)

-- what stands behind one heading
behind-same : (level offset : ℕ) (a b : List ℕ) → length a ≡ length b
    → heading level offset (length a) ++ filled a ≡ heading level offset (length b) ++ filled b
    → a ≡ b
behind-same level offset a b long same =
    filled-same a b long
    (append_cancel_left (heading level offset (length a)) (filled a) (filled b)
    (same ∙ ap (λ (n : ℕ). heading level offset n ++ filled b) (sym long)))

pub block_message-same : (level offset : ℕ) (a b : List ℕ) → length a ≡ length b
    → block_message level offset a ≡ block_message level offset b → a ≡ b
block_message-same zero offset [] [] long same = refl
block_message-same zero offset [] (y ∷ b) long same = absurd (omega (arith, long))
block_message-same zero offset (x ∷ a) [] long same = absurd (omega (arith, long))
block_message-same zero offset (x ∷ a) (y ∷ b) long same =
    behind-same 0 offset (x ∷ a) (y ∷ b) long same
block_message-same (suc level) offset a b long same = behind-same (suc level) offset a b long same

-- ---- lengths of data

abbrev pub joined : List Digest → List ℕ
joined digests = flat_map (λ d. d.0) digests

-- the digests that one block holds
abbrev pub group : List Digest → ℕ → List Digest
group digests i = take 256 (drop (256 * i) digests)

pub joined-long : (xs ys : List Digest) → All IsDigest xs → All IsDigest ys
    → length xs ≡ length ys → length (joined xs) ≡ length (joined ys)
joined-long [] [] all_x all_y long = refl
joined-long [] (y ∷ ys) all_x all_y long = absurd (omega (arith, long))
joined-long (x ∷ xs) [] all_x all_y long = absurd (omega (arith, long))
joined-long (x ∷ xs) (y ∷ ys) all_x all_y long =
    let hx = (All-head IsDigest x xs all_x).length_is in
    let hy = (All-head IsDigest y ys all_y).length_is in
    let rest = joined-long xs ys (All-tail IsDigest x xs all_x) (All-tail IsDigest y ys all_y)
    (omega (arith, long)) in
    simp length-append (omega (arith, hx, hy, rest))

filled-long : (a b : List ℕ) → length a ≡ length b → length (filled a) ≡ length (filled b)
filled-long a b long = simp (length-append, length-replicate) (omega (arith, long))

-- pieces of lists of one length
pub piece-long : {A : Type 0} (m i : ℕ) (xs ys : List A) → length xs ≡ length ys
    → length (take m (drop (m * i) xs)) ≡ length (take m (drop (m * i) ys))
piece-long m i xs ys long =
    simp (length-take, length-drop) (ap (λ (n : ℕ). min m (n - m * i)) long)

-- levels of blobs of one length
pub level_of-long : (a b : List ℕ) (level : ℕ) → length a ≡ length b
    → length (level_of a level) ≡ length (level_of b level)
level_of-long a b level long =
    length-level_of a level
    ∙ ap (λ (n : ℕ). digests_at n level) long
    ∙ sym (length-level_of b level)

-- digests of one block
pub group-long : (a b : List ℕ) (level i : ℕ) → length a ≡ length b
    → length (joined (group (level_of a level) i)) ≡ length (joined (group (level_of b level) i))
group-long a b level i long =
    joined-long _ _ (group-are _ i (level_of-are a level)) (group-are _ i (level_of-are b level))
    (piece-long 256 i _ _ (level_of-long a b level long))

-- blocks of blobs of one length
pub data_at-long : (a b : List ℕ) (level i : ℕ) → length a ≡ length b
    → length (data_at a level i) ≡ length (data_at b level i)
data_at-long a b zero i long = piece-long 8192 i a b long
data_at-long a b (suc below) i long = filled-long _ _ (group-long a b below i long)
