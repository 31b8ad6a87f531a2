use Rattle.std.proofs.Common.{◌≡◌, length}
use Rattle.tests_windows.proofs.blobs.seq.Given as goal

-- a byte a turn
abbrev pub invariant-loop-i : goal.invariant-loop-i
invariant-loop-i l = length l.bytes.items ≡ l.i
