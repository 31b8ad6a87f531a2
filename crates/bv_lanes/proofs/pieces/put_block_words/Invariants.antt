use Rattle.std.proofs.Common.{◌≡◌, ℕ, ◌+◌, ◌-◌, ◌*◌, ◌<◌, ◌≤◌, ◌⊎◌, [], length, slice_index_or}
use Rattle.sha2.specs.Sha256.{word_at}
use Rattle.bv_lanes.specs.Lanes.{EachLane, lane_word}
use Rattle.bv_lanes.specs.Messages.{message_at}
use Rattle.bv_lanes.proofs.pieces.put_block_words.Given as goal

abbrev pub invariant-words : goal.invariant-words
invariant-words l = record {
  long : length l.words ≡ 16;
  put : (t : ℕ) → l.first ≤ t → t < l.t → EachLane (λ j. lane_word l.words t j
      ≡ word_at (message_at l.messages j).block.now (4 * (16 * l.piece + t - 3)));
  kept : (t : ℕ) → (t < l.first) ⊎ (l.t ≤ t) → slice_index_or l.words t [] ≡ slice_index_or l.fn.words t [];
  sizes : l.first < l.t → EachLane (λ j. length (message_at l.messages j).block.now ≡ 8192);
}
