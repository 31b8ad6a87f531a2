-- Where the words of a padded message lie: in the prefix, in the block or in the padding.
use Rattle.std.proofs.Common.{◌≡◌, ℕ, zero, suc, ◌+◌, ◌-◌, ◌*◌, ◌/◌, ◌<◌, ◌≤◌, List, [], ◌∷◌, length, slice_index, refl, sym, ap, subst, inl, inr, ◌∙◌, add-zero, arith, length-append}
use Rattle.std.proofs.lemmas.Bool.{cases_lt}
use Rattle.std.proofs.lemmas.List.{get_or-append-add, get_or_append_left, get_or-drop, get_or-take, get_or-map}
use Rattle.std.specs.Int.{w32, from_be_bytes}
use Rattle.sha2.specs.Sha256.{compress, final_hash, hash_after, padded_message, padding, word_at}
use Rattle.sha2.proofs.Absorbing256.{hash_after_next}
use Rattle.bv_lanes.specs.declared.message.Message.{Message}
use Rattle.bv_lanes.specs.Lanes.{lane_state, lane_word, lane_words}
use Rattle.bv_lanes.specs.Messages.{IsMessage, bytes_of, piece_of}
use Rattle.bv_lanes.proofs.LaneLemmas.{each_lane}

-- what holds of each of sixteen words
pub each_word : (P : ℕ → Type 0) → P 0 → P 1 → P 2 → P 3 → P 4 → P 5 → P 6 → P 7
    → P 8 → P 9 → P 10 → P 11 → P 12 → P 13 → P 14 → P 15 → (t : ℕ) → t < 16 → P t
each_word P p0 p1 p2 p3 p4 p5 p6 p7 p8 p9 p10 p11 p12 p13 p14 p15 t lt = elim (cases_lt t 8) [
  | inl low ↦ each_lane P p0 p1 p2 p3 p4 p5 p6 p7 t low
  | inr high ↦
      let at : 8 + (t - 8) ≡ t = omega arith in
      subst P at (each_lane (λ k. P (8 + k)) p8 p9 p10 p11 p12 p13 p14 p15 (t - 8) (omega arith))
]

-- what holds of each of three words
pub each_of_three : (P : ℕ → Type 0) → P 0 → P 1 → P 2 → (t : ℕ) → t < 3 → P t
each_of_three P p0 p1 p2 zero lt = p0
each_of_three P p0 p1 p2 (suc zero) lt = p1
each_of_three P p0 p1 p2 (suc (suc zero)) lt = p2
each_of_three P p0 p1 p2 (suc (suc (suc n))) lt = absurd (omega arith)

-- two words of the same four bytes
same_word : (b c : List ℕ) (i k : ℕ) → ((r : ℕ) → r < 4 → slice_index b (i + r) ≡ slice_index c (k + r)) → word_at b i ≡ word_at c k
same_word b c i k h =
    let e0 : slice_index b i ≡ slice_index c k = simp add-zero at (h 0 (omega arith)) in
    let e1 = h 1 (omega arith) in
    let e2 = h 2 (omega arith) in
    let e3 = h 3 (omega arith) in
    λ x. from_be_bytes w32 (e0 x ∷ e1 x ∷ e2 x ∷ e3 x ∷ [])

-- a word of a piece, where the padded message has it
piece_word : (m : Message) (n t : ℕ) → t < 16 → word_at (piece_of m n) (4 * t) ≡ word_at (padded_message (bytes_of m)) (n * 64 + 4 * t)
piece_word m n t lt =
    let p = padded_message (bytes_of m) in
    same_word (piece_of m n) p (4 * t) (n * 64 + 4 * t) (λ r few.
    get_or-take 64 _ (4 * t + r) 0 (omega arith) ∙ get_or-drop (n * 64) p (4 * t + r) 0 ∙ ap (slice_index p) (omega arith))

-- a word of the prefix
prefix_word_at : (m : Message) (i : ℕ) → IsMessage m → i + 4 ≤ 12 → word_at (padded_message (bytes_of m)) i ≡ word_at m.prefix i
prefix_word_at m i sized fits =
    let all = length-append m.prefix m.block.now in
    same_word (padded_message (bytes_of m)) m.prefix i i (λ r few.
    get_or_append_left (bytes_of m) (padding (length (bytes_of m))) 0 (i + r) (omega (arith, all, sized.0))
    ∙ get_or_append_left m.prefix m.block.now 0 (i + r) (omega (arith, sized.0)))

-- a word of the block
block_word_at : (m : Message) (i : ℕ) → IsMessage m → i + 4 ≤ 8192 → word_at (padded_message (bytes_of m)) (12 + i) ≡ word_at m.block.now i
block_word_at m i sized fits =
    let all = length-append m.prefix m.block.now in
    same_word (padded_message (bytes_of m)) m.block.now (12 + i) i (λ r few.
    get_or_append_left (bytes_of m) (padding (length (bytes_of m))) 0 (12 + i + r) (omega (arith, all, sized.0, sized.1))
    ∙ ap (slice_index (bytes_of m)) (omega (arith, sized.0))
    ∙ get_or-append-add m.prefix m.block.now (i + r) 0)

-- a word of the padding
padding_word_at : (m : Message) (i : ℕ) → IsMessage m → word_at (padded_message (bytes_of m)) (8204 + i) ≡ word_at (padding 8204) i
padding_word_at m i sized =
    let all : length (bytes_of m) ≡ 8204 = omega (arith, length-append m.prefix m.block.now, sized.0, sized.1) in
    let rest = padding (length (bytes_of m)) in
    same_word (padded_message (bytes_of m)) (padding 8204) (8204 + i) i (λ r few.
    ap (slice_index (padded_message (bytes_of m))) (omega (arith, all))
    ∙ get_or-append-add (bytes_of m) rest (i + r) 0
    ∙ ap (λ (n : ℕ). slice_index (padding n) (i + r)) all)

-- word t of piece 0, where it lies in the prefix
pub in_prefix : (m : Message) (t word : ℕ) → IsMessage m → t < 3 → word ≡ word_at m.prefix (4 * t) → word ≡ word_at (piece_of m 0) (4 * t)
in_prefix m t word sized low is =
    is ∙ sym (piece_word m 0 t (omega arith) ∙ ap (word_at (padded_message (bytes_of m))) (omega arith) ∙ prefix_word_at m (4 * t) sized (omega arith))

-- word t of piece n, where it lies in the block
pub in_block : (m : Message) (n t word : ℕ) → IsMessage m → t < 16 → 3 ≤ 16 * n + t → 16 * n + t < 2051
    → word ≡ word_at m.block.now (4 * (16 * n + t - 3)) → word ≡ word_at (piece_of m n) (4 * t)
in_block m n t word sized lt low high is =
    is
    ∙ sym (piece_word m n t lt
    ∙ ap (word_at (padded_message (bytes_of m))) (omega arith)
    ∙ block_word_at m (4 * (16 * n + t - 3)) sized (omega arith))

-- word t of the last piece, where it lies in the padding
pub in_padding : (m : Message) (t word : ℕ) → IsMessage m → 3 ≤ t → t < 16
    → word ≡ word_at (padding 8204) (4 * (t - 3)) → word ≡ word_at (piece_of m 128) (4 * t)
in_padding m t word sized low lt is =
    is
    ∙ sym (piece_word m 128 t lt
    ∙ ap (word_at (padded_message (bytes_of m))) (omega arith)
    ∙ padding_word_at m (4 * (t - 3)) sized)

-- word t of lane j
pub lane_words_at : (vectors : List (List ℕ)) (j t : ℕ) → t < length vectors → slice_index (lane_words j vectors) t ≡ lane_word vectors t j
lane_words_at vectors j t lt = get_or-map (λ vector. slice_index vector j) vectors t [] 0 lt

-- the hash value after one piece more
pub hash_after_more : (start : List ℕ) (m : Message) (n : ℕ) (before after : List ℕ)
    → before ≡ hash_after start (padded_message (bytes_of m)) n → after ≡ compress before (piece_of m n)
    → after ≡ hash_after start (padded_message (bytes_of m)) (n + 1)
hash_after_more start m n before after held more =
    more ∙ ap (λ h. compress h (piece_of m n)) held ∙ sym (hash_after_next start (padded_message (bytes_of m)) n)

-- a message and its padding are 129 pieces
pub final_hash_is : (start : List ℕ) (m : Message) → IsMessage m → final_hash start (bytes_of m) ≡ hash_after start (padded_message (bytes_of m)) 129
final_hash_is start m sized =
    let all : length (bytes_of m) ≡ 8204 = omega (arith, length-append m.prefix m.block.now, sized.0, sized.1) in
    let rest : length (padding (length (bytes_of m))) ≡ 52 = ap (λ (n : ℕ). length (padding n)) all in
    let pieces : length (padded_message (bytes_of m)) / 64 ≡ 129 =
    omega (arith, all, rest, length-append (bytes_of m) (padding (length (bytes_of m)))) in
    ap (hash_after start (padded_message (bytes_of m))) pieces

-- word i of the state of a lane
pub lane_state_at : (state : List (List ℕ)) (j i : ℕ) → i < 8 → slice_index (lane_state j state) i ≡ lane_word state i j
lane_state_at state j = each_lane (λ i. slice_index (lane_state j state) i ≡ lane_word state i j) refl refl refl refl refl refl refl refl
