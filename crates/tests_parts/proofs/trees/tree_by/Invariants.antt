use Rattle.std.proofs.Common.{◌≡◌, ◌+◌, length}
use Rattle.bv_merkle.specs.Builder.{built, size_of}
use Rattle.tests_parts.proofs.trees.tree_by.Given as goal

abbrev pub invariant-loop-rest : goal.invariant-loop-rest
invariant-loop-rest l = record {
  size : size_of l.builder ≡ length l.bytes;
  built : built l.builder + length l.rest ≡ length l.bytes;
}

abbrev pub decreases-loop-rest : goal.decreases-loop-rest
decreases-loop-rest l = length l.rest
