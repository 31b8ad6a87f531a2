use Rattle.std.proofs.Common.{◌≡◌, ◌++◌}
use Rattle.std.specs.List.{range_with_len}
use Rattle.bv_journaled.proofs.places.add_blocks.Given as goal

-- the data blocks so far
abbrev pub invariant-loop-index : goal.invariant-loop-index
invariant-loop-index l = l.blocks.items ≡ l.fn.blocks.items ++ range_with_len l.extent.start l.index
