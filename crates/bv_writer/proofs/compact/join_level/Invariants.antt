use Rattle.std.proofs.Common.{◌≡◌, ◌-◌, ◌*◌, ◌++◌, List, length, take}
use Rattle.spec_tree.specs.declared.Digest.{Digest}
use Rattle.bv_merkle.specs.Hasher.{AreDigests}
use Rattle.bv_merkle.specs.Levels.{all_blocks}
use Rattle.bv_writer.specs.Blocks.{digest_bytes}
use Rattle.bv_writer.proofs.compact.join_level.Given as goal

abbrev pub invariant-loop-block : goal.invariant-loop-block
invariant-loop-block l = record {
  left : l.left ≡ l.count - 256 * l.block-index;
  joined : (digests : List Digest) → AreDigests digests → length digests ≡ l.count → l.blocks ≡ all_blocks digests
      → l.out.items ≡ l.fn.out.items ++ digest_bytes (take (256 * l.block-index) digests);
}
