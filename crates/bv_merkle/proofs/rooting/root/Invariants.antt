use Rattle.std.proofs.Common.{◌≡◌, ◌*◌, take}
use Rattle.bv_merkle.specs.Hasher.{Holds}
use Rattle.bv_merkle.proofs.rooting.root.Given as goal

-- the hasher has taken the windows so far
abbrev pub invariant-loop-i : goal.invariant-loop-i
invariant-loop-i l = record {
  taken : l.hasher.taken ≡ 65536 * l.i;
  holds : Holds l.hasher (take (65536 * l.i) l.bytes);
}
