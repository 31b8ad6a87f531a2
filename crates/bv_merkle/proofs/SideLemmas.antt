-- The digests of a window's blocks, from those of the messages that are hashed side by side.
use Rattle.std.proofs.Common.{◌≡◌, ℕ, zero, suc, ◌+◌, ◌-◌, ◌*◌, ◌/◌, ◌<◌, ◌≤◌, List, [], ◌++◌, length, take, drop, map, get_or, replicate, Some, length-drop, length-take, inl, inr, sym, ap, ◌∙◌, arith}
use Rattle.std.specs.List.{slice_get}
use Rattle.std.specs.Simd.{first_chunks}
use Rattle.std.proofs.lemmas.Bool.{cases_lt}
use Rattle.std.proofs.lemmas.List.{append-nil, drop-drop, get_or-map, get_or-take, length-map, length-take-le, take_all}
use Rattle.std.proofs.lemmas.Option.{slice_get-get_or}
use Rattle.sha2.specs.Sha256.{sha256}
use Rattle.spec_tree.specs.declared.Digest.{Digest}
use Rattle.spec_tree.specs.Tree.{block_digest, data_blocks, filled, heading, piece}
use Rattle.spec_tree.proofs.TreeLemmas.{block_message-some}
use Rattle.bv_lanes.specs.declared.message.Message.{Message}
use Rattle.bv_lanes.specs.Messages.{bytes_of, message_at}

-- chunk i of a list
chunk_at : {X : Type 0} (n k : ℕ) (xs : List X) (i : ℕ) → i < k → get_or (first_chunks n k xs) i [] ≡ take n (drop (n * i) xs)
chunk_at n zero xs i lt = absurd (omega arith)
chunk_at n (suc k) xs zero lt =
    let start : 0 ≡ n * 0 = omega arith in
    ap (λ j. take n (drop j xs)) start
chunk_at n (suc k) xs (suc i) lt =
    let start : n + n * i ≡ n * suc i = omega arith in
    chunk_at n k (drop n xs) i (omega arith) ∙ ap (take n) (drop-drop (n * i) n xs ∙ ap (λ j. drop j xs) start)

-- the digest with these bytes
abbrev pub digest_of : List ℕ → Digest
digest_of bytes = record { 0 = bytes }

-- the digest of a piece with data, from its message
pub digest_of_message : (offset : ℕ) (bytes : List ℕ) (m : Message) → 0 < length bytes
    → bytes_of m ≡ heading 0 offset (length bytes) ++ filled bytes
    → digest_of (sha256 (bytes_of m)) ≡ block_digest 0 offset bytes
unfolding block_digest
digest_of_message offset bytes m some is =
    ap (λ (x : List ℕ). digest_of (sha256 x))
    (is ∙ sym (block_message-some 0 offset bytes some))

-- the message of a whole piece
whole_piece : (bytes : List ℕ) (offset i : ℕ) (m : Message) (whole : List (List ℕ))
    → whole ≡ first_chunks 8192 (length bytes / 8192) bytes → i < length bytes / 8192
    → bytes_of m ≡ heading 0 (offset + 8192 * i) 8192 ++ get_or whole i []
    → bytes_of m ≡ heading 0 (offset + 8192 * i) (length (piece bytes i)) ++ filled (piece bytes i)
whole_piece bytes offset i m whole front low is =
    let part : get_or whole i [] ≡ piece bytes i = ap (λ (w : List (List ℕ)). get_or w i []) front ∙ chunk_at 8192 (length bytes / 8192) bytes i low in
    let long : length (piece bytes i) ≡ 8192 = length-take-le 8192 (drop (8192 * i) bytes) (omega (arith, length-drop (8192 * i) bytes)) in
    let full : piece bytes i ≡ filled (piece bytes i) =
    sym (ap (λ (n : ℕ). piece bytes i ++ replicate (8192 - n) 0) long ∙ append-nil (piece bytes i)) in
    is ∙ (λ t. heading 0 (offset + 8192 * i) (sym long t) ++ (part ∙ full) t)

-- the message of the last piece, which is cut short
last_piece : (bytes rest : List ℕ) (offset i : ℕ) (m : Message) → rest ≡ drop (length bytes / 8192 * 8192) bytes → i ≡ length bytes / 8192
    → bytes_of m ≡ heading 0 (offset + 8192 * (length bytes / 8192)) (length rest) ++ filled rest
    → bytes_of m ≡ heading 0 (offset + 8192 * i) (length (piece bytes i)) ++ filled (piece bytes i)
last_piece bytes rest offset i m back at is =
    let start : length bytes / 8192 * 8192 ≡ 8192 * i = omega arith in
    let few : length (drop (8192 * i) bytes) ≤ 8192 = omega (arith, length-drop (8192 * i) bytes) in
    let part : rest ≡ piece bytes i = back ∙ ap (λ (n : ℕ). drop n bytes) start ∙ sym (take_all 8192 (drop (8192 * i) bytes) few) in
    is ∙ (λ t. heading 0 (offset + 8192 * sym at t) (length (part t)) ++ filled (part t))

-- the digest of piece i, from what was found for the first n messages
pub side_digest : (bytes rest : List ℕ) (offset n i : ℕ) (whole : List (List ℕ)) (messages some : List Message) (found : List (List ℕ))
    → whole ≡ first_chunks 8192 (length bytes / 8192) bytes → rest ≡ drop (length bytes / 8192 * 8192) bytes
    → n ≡ data_blocks (length bytes) → n ≤ length messages → i < n
    → ((k : ℕ) → k < length bytes / 8192 → bytes_of (message_at messages k) ≡ heading 0 (offset + 8192 * k) 8192 ++ get_or whole k [])
    → (length bytes / 8192 ≤ i → bytes_of (message_at messages i) ≡ heading 0 (offset + 8192 * (length bytes / 8192)) (length rest) ++ filled rest)
    → some ≡ take n messages → take (length some) found ≡ map (λ message. sha256 (bytes_of message)) some
    → slice_get (map digest_of found) i ≡ Some (block_digest 0 (offset + 8192 * i) (piece bytes i))
side_digest bytes rest offset n i whole messages some found front back count fits low is_whole is_last taken hashed =
    let of : Message → List ℕ = λ message. sha256 (bytes_of message) in
    let m = message_at messages i in
    let many : length some ≡ n = ap length taken ∙ length-take-le n messages fits in
    let found_many : length (take (length some) found) ≡ n = ap length hashed ∙ length-map some of ∙ many in
    let enough : n ≤ length found = omega (arith, length-take (length some) found) in
    let part : bytes_of m ≡ heading 0 (offset + 8192 * i) (length (piece bytes i)) ++ filled (piece bytes i) =
    elim (cases_lt i (length bytes / 8192)) [
      | inl near ↦ whole_piece bytes offset i m whole front near (is_whole i near)
      | inr far ↦ last_piece bytes rest offset i m back (omega (arith, far, low, count)) (is_last far)
    ] in
    let has_data : 0 < length (piece bytes i) = omega (arith, length-take 8192 (drop (8192 * i) bytes), length-drop (8192 * i) bytes) in
    let here : get_or found i [] ≡ sha256 (bytes_of m) =
    sym (get_or-take (length some) found i [] (omega arith))
    ∙ ap (λ (xs : List (List ℕ)). get_or xs i []) hashed
    ∙ get_or-map of some i _ [] (omega arith)
    ∙ ap (λ (xs : List Message). of (message_at xs i)) taken
    ∙ ap of (get_or-take n messages i _ low) in
    slice_get-get_or (map digest_of found) i (digest_of []) (omega (arith, length-map found digest_of))
    ∙ ap Some (get_or-map digest_of found i [] (digest_of []) (omega arith)
    ∙ ap digest_of here
    ∙ digest_of_message (offset + 8192 * i) (piece bytes i) m has_data part)
