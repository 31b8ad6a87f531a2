use Rattle.std.proofs.Common.{◌≡◌, length}
use Rattle.bv_merkle.specs.Hashing.{HasDigestsOf}
use Rattle.bv_merkle.proofs.window.one_by_one.Given as goal

abbrev pub invariant-loop-i : goal.invariant-loop-i
invariant-loop-i l = record {
  long : length l.digests ≡ 8;
  made : HasDigestsOf l.digests l.i l.fn.offset l.bytes;
}
