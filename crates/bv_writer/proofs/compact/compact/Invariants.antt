use Rattle.std.proofs.Common.{◌≡◌, length}
use Rattle.spec_tree.specs.Tree.{digests_at}
use Rattle.bv_writer.specs.Blocks.{digest_bytes}
use Rattle.bv_writer.proofs.CompactLemmas.{digests_of}
use Rattle.bv_writer.proofs.compact.compact.Given as goal

abbrev pub invariant-loop-blocks : goal.invariant-loop-blocks
invariant-loop-blocks l = record {
  count : l.count ≡ digests_at (length l.bytes) l.blocks-index;
  joined : l.digests.items ≡ digest_bytes (digests_of l.bytes l.blocks-index);
}
