use Rattle.std.proofs.Common.{◌≡◌, ℕ, ◌-◌, ◌*◌, ◌<◌, ◌≤◌, slice_index, slice_set, replicate, inr, ap, ◌∙◌, arith}
use Rattle.sha2.specs.Sha256.{padding, word_at}
use Rattle.bv_lanes.specs.Lanes.{lane_word}
use Rattle.bv_lanes.specs.Messages.{message_at, piece_of}
use Rattle.bv_lanes.proofs.PieceLemmas.{each_word, in_block, in_padding, lane_words_at}
use Rattle.bv_lanes.proofs.pieces.put_last_words.Goals as goal

pub returns : goal.returns
returns c j lt t low =
    let m = message_at c.args.messages.now j in
    let sized = c.requires.sizes j lt in
    let words = c.put_block_words.new.words in
    let z = c.splat-words.result in
    let zero = c.splat-words.ensures j lt in
    let old = slice_set (slice_set (replicate 16 z) 3 c.splat.result) 15 c.splat-2.result in
    let block : (t : ℕ) → t < 3 → t < 16 → lane_word words t j ≡ word_at (piece_of m 128) (4 * t) =
    λ t near below. in_block m 128 t _ sized below (omega arith) (omega arith) (c.put_block_words.ensures.put t (omega arith) near j lt) in
    let rest : (t : ℕ) → 3 ≤ t → t < 16 → lane_word old t j ≡ word_at (padding 8204) (4 * (t - 3)) → lane_word words t j ≡ word_at (piece_of m 128) (4 * t) =
    λ t far below is. in_padding m t _ sized far below (ap (λ v. slice_index v j) (c.put_block_words.ensures.kept t (inr far)) ∙ is) in
    lane_words_at words j t (omega (arith, c.put_block_words.array_long))
    ∙ each_word (λ t. lane_word words t j ≡ word_at (piece_of m 128) (4 * t))
    (block 0 (omega arith) (omega arith))
    (block 1 (omega arith) (omega arith))
    (block 2 (omega arith) (omega arith))
    (rest 3 (omega arith) (omega arith) (c.splat.ensures j lt))
    (rest 4 (omega arith) (omega arith) zero)
    (rest 5 (omega arith) (omega arith) zero)
    (rest 6 (omega arith) (omega arith) zero)
    (rest 7 (omega arith) (omega arith) zero)
    (rest 8 (omega arith) (omega arith) zero)
    (rest 9 (omega arith) (omega arith) zero)
    (rest 10 (omega arith) (omega arith) zero)
    (rest 11 (omega arith) (omega arith) zero)
    (rest 12 (omega arith) (omega arith) zero)
    (rest 13 (omega arith) (omega arith) zero)
    (rest 14 (omega arith) (omega arith) zero)
    (rest 15 (omega arith) (omega arith) (c.splat-2.ensures j lt))
    t low
