use Rattle.std.proofs.Common.{◌≡◌, ℕ, ◌+◌, ◌*◌, ◌-◌, ◌<◌, [], ◌∷◌, slice_index, slice_index_or, ap, ◌∙◌, arith}
use Rattle.sha2.specs.Sha256.{word_at}
use Rattle.bv_lanes.specs.Lanes.{lane_word, lane_words}
use Rattle.bv_lanes.specs.Messages.{message_at, piece_of}
use Rattle.bv_lanes.proofs.PieceLemmas.{each_word, in_block}
use Rattle.bv_lanes.proofs.pieces.put_middle_words.Goals as goal

pub returns : goal.returns
returns c j lt t low =
    let m = message_at c.args.messages.now j in
    let piece = c.args.piece in
    let front = c.eight_block_words-front.result in
    let back = c.eight_block_words-back.result in
    let first : (k : ℕ) → k < 8 → lane_word front k j ≡ word_at (piece_of m piece) (4 * k) = λ k few.
    let at : 4 * (16 * piece - 3) + 4 * k ≡ 4 * (16 * piece + k - 3) = omega arith in
    in_block m piece k _ (c.requires.sizes j lt) (omega arith) (omega arith) (omega arith)
    (c.eight_block_words-front.ensures k few j lt ∙ ap (word_at m.block.now) at) in
    let second : (k : ℕ) → k < 8 → lane_word back k j ≡ word_at (piece_of m piece) (4 * (8 + k)) = λ k few.
    let at : 4 * (16 * piece - 3) + 32 + 4 * k ≡ 4 * (16 * piece + (8 + k) - 3) = omega arith in
    in_block m piece (8 + k) _ (c.requires.sizes j lt) (omega arith) (omega arith) (omega arith)
    (c.eight_block_words-back.ensures k few j lt ∙ ap (word_at m.block.now) at) in
    let vectors = slice_index_or front 0 [] ∷ slice_index_or front 1 [] ∷ slice_index_or front 2 [] ∷ slice_index_or front 3 [] ∷ slice_index_or front 4 [] ∷ slice_index_or front 5 [] ∷ slice_index_or front 6 [] ∷ slice_index_or front 7 [] ∷ slice_index_or back 0 [] ∷ slice_index_or back 1 [] ∷ slice_index_or back 2 [] ∷ slice_index_or back 3 [] ∷ slice_index_or back 4 [] ∷ slice_index_or back 5 [] ∷ slice_index_or back 6 [] ∷ slice_index_or back 7 [] ∷ [] in
    each_word (λ t. slice_index (lane_words j vectors) t ≡ word_at (piece_of m piece) (4 * t))
    (first 0 (omega arith))
    (first 1 (omega arith))
    (first 2 (omega arith))
    (first 3 (omega arith))
    (first 4 (omega arith))
    (first 5 (omega arith))
    (first 6 (omega arith))
    (first 7 (omega arith))
    (second 0 (omega arith))
    (second 1 (omega arith))
    (second 2 (omega arith))
    (second 3 (omega arith))
    (second 4 (omega arith))
    (second 5 (omega arith))
    (second 6 (omega arith))
    (second 7 (omega arith))
    t low
