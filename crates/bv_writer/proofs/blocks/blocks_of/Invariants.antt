use Rattle.std.proofs.Common.{◌≡◌, map}
use Rattle.std.specs.List.{range_with_len}
use Rattle.spec_tree.specs.Tree.{filled, piece}
use Rattle.bv_writer.proofs.blocks.blocks_of.Given as goal

abbrev pub invariant-loop-i : goal.invariant-loop-i
invariant-loop-i l = l.blocks.items ≡ map (λ i. filled (piece l.bytes i)) (range_with_len 0 l.i)
