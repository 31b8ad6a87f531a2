use Rattle.std.proofs.Common.{◌≡◌, ℕ, ◌*◌, ◌<◌, slice_index, inl, inr, ap, ◌∙◌, arith}
use Rattle.std.proofs.lemmas.Bool.{cases_lt}
use Rattle.sha2.specs.Sha256.{word_at}
use Rattle.bv_lanes.specs.Lanes.{lane_word}
use Rattle.bv_lanes.specs.Messages.{IsMessage, message_at}
use Rattle.bv_lanes.proofs.PieceLemmas.{each_of_three, in_block, in_prefix, lane_words_at}
use Rattle.bv_lanes.proofs.pieces.put_first_words.Goals as goal

pub returns-clause-sizes : goal.returns-clause-sizes
returns-clause-sizes c j lt = (c.prefix_words.ensures.sizes j lt, c.put_block_words.ensures.sizes (omega arith) j lt)

pub returns-clause-words : goal.returns-clause-words
returns-clause-words c j lt t low =
    let m = message_at c.args.messages.now j in
    let sized : IsMessage m = (c.prefix_words.ensures.sizes j lt, c.put_block_words.ensures.sizes (omega arith) j lt) in
    let words = c.put_block_words.new.words in
    let kept = c.put_block_words.ensures.kept in
    let prefix : (t : ℕ) → t < 3 → lane_word words t j ≡ word_at m.prefix (4 * t) =
    each_of_three (λ t. lane_word words t j ≡ word_at m.prefix (4 * t))
    (ap (λ v. slice_index v j) (kept 0 (inl (omega arith))) ∙ c.prefix_words.ensures.words j lt)
    (ap (λ v. slice_index v j) (kept 1 (inl (omega arith))) ∙ c.prefix_words-2.ensures.words j lt)
    (ap (λ v. slice_index v j) (kept 2 (inl (omega arith))) ∙ c.prefix_words-3.ensures.words j lt) in
    lane_words_at words j t (omega (arith, c.put_block_words.array_long))
    ∙ elim (cases_lt t 3) [
      | inl near ↦ in_prefix m t _ sized near (prefix t near)
      | inr far ↦ in_block m 0 t _ sized low (omega arith) (omega arith) (c.put_block_words.ensures.put t far low j lt)
    ]
