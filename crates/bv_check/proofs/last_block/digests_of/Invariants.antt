use Rattle.std.proofs.Common.{◌≡◌}
use Rattle.spec_tree.specs.Tree.{digest_block}
use Rattle.bv_merkle.proofs.WindowLemmas.{digests_from}
use Rattle.bv_check.proofs.last_block.digests_of.Given as goal

-- the block of the digests so far
abbrev pub invariant-loop-i : goal.invariant-loop-i
invariant-loop-i l = l.block ≡ digest_block (digests_from 0 l.bytes l.i) 0
