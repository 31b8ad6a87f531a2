-- Each byte of the register has its word.
use Rattle.std.proofs.Common.{arith}
use Rattle.bv_bytes.proofs.MessageLemmas.{register_looked_up}
use Rattle.bv_bytes.proofs.crc.after_64.Goals as goal

pub returns : goal.returns
returns c =
    register_looked_up c.args.register _ _ _ _ _ (omega arith) c.to_le_bytes.ensures
    c.far.ensures c.far-2.ensures c.far-3.ensures c.far-4.ensures
