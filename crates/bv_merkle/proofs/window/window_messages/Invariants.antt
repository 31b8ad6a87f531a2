use Rattle.std.proofs.Common.{◌≡◌, ℕ, ◌+◌, ◌*◌, ◌<◌, ◌≤◌, [], ◌++◌, length, slice_index_or}
use Rattle.spec_tree.specs.Tree.{heading}
use Rattle.bv_lanes.specs.Messages.{bytes_of, message_at}
use Rattle.bv_merkle.proofs.window.window_messages.Given as goal

abbrev pub invariant-loop-i : goal.invariant-loop-i
invariant-loop-i l = record {
  eight : length l.messages ≡ 8;
  whole : (k : ℕ) → k < l.i → bytes_of (message_at l.messages k)
      ≡ heading 0 (l.offset + 8192 * k) 8192 ++ slice_index_or l.whole k [];
  last : (k : ℕ) → l.i ≤ k → k < 8 → bytes_of (message_at l.messages k)
      ≡ heading 0 (l.offset + 8192 * length l.whole) l.count ++ l.last;
}
