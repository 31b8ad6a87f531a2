-- A superblock that is read has its one spelling.
use Rattle.std.proofs.Common.{rules}
use Rattle.bv_layout.proofs.SuperLemmas.{read_is_spelled}
use Rattle.bv_layout.proofs.superblock.read_super.Goals as goal

pub returns-clause-ok : goal.returns-clause-ok
returns-clause-ok c =
    read_is_spelled c.args.block.now c.args.device_blocks c.tested.result (record { length_is = search rules; bytes_fit = λ i. search rules }) c.tested.ensures
