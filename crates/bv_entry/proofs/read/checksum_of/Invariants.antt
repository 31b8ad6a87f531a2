use Rattle.std.proofs.Common.{◌≡◌, take}
use Rattle.std.specs.List.{concat}
use Rattle.spec_record.specs.Crc.{crc32}
use Rattle.bv_entry.proofs.read.checksum_of.Given as goal

-- it is the sum of the blocks so far
abbrev pub invariant-loop-block : goal.invariant-loop-block
invariant-loop-block l = l.sum ≡ crc32 (concat (take l.block-index l.blocks))
