-- Four bytes go with the register, and four by themselves.
use Rattle.std.proofs.Common.{arith}
use Rattle.bv_bytes.proofs.MessageLemmas.{eight_looked_up}
use Rattle.bv_bytes.proofs.crc.after_eight.Goals as goal

pub returns : goal.returns
returns c =
    rw (c.after_64.ensures, c.after_four.ensures) (
    eight_looked_up c.args.register _ c.args.bytes.now c.requires (λ i. omega (arith, c.type_inv.bytes i)) c.from_le_bytes-front.ensures)
