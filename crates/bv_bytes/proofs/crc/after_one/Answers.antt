-- The lowest byte of the register meets the byte, and the others move down.
use Rattle.std.proofs.Common.{arith}
use Rattle.bv_bytes.proofs.MessageLemmas.{one_looked_up}
use Rattle.bv_bytes.proofs.crc.after_one.Goals as goal

pub returns : goal.returns
returns c = one_looked_up c.args.register c.args.byte _ _ (omega arith) c.to_le_bytes.ensures c.near.ensures
