use Rattle.std.proofs.Common.{◌≡◌, ℕ, ◌-◌, ◌<◌, ◌≤◌, get_or}
use Rattle.bv_bytes.proofs.zeros.past_zeros.Given as goal

-- the bytes so far are zero
abbrev pub invariant-loop-place : goal.invariant-loop-place
invariant-loop-place l = record {
  from_low : l.offset ≤ l.place;
  to_high : l.place ≤ l.end;
  zeros : (k : ℕ) → l.offset ≤ k → k < l.place → get_or l.bytes k 0 ≡ 0;
}

abbrev pub decreases-loop-place : goal.decreases-loop-place
decreases-loop-place l = l.end - l.place
