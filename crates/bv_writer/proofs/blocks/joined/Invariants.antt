use Rattle.std.proofs.Common.{◌≡◌, take}
use Rattle.std.specs.List.{flat_map}
use Rattle.bv_writer.proofs.blocks.joined.Given as goal

abbrev pub invariant-loop-blocks : goal.invariant-loop-blocks
invariant-loop-blocks l = l.all.items ≡ flat_map (λ blocks. blocks.items) (take l.blocks-index l.levels)
