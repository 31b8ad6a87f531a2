use Rattle.std.proofs.Common.{◌≡◌, ℕ, ◌<◌, ◌≤◌, get_or}
use Rattle.bv_bytes.proofs.zeros.find_set.Given as goal

-- the bytes so far are zero
abbrev pub invariant-loop-place : goal.invariant-loop-place
invariant-loop-place l = (k : ℕ) → l.offset ≤ k → k < l.place → get_or l.bytes k 0 ≡ 0
