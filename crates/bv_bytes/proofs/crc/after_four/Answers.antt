-- Each byte has its word.
use Rattle.std.proofs.Common.{arith}
use Rattle.bv_bytes.proofs.MessageLemmas.{four_looked_up}
use Rattle.bv_bytes.proofs.crc.after_four.Goals as goal

pub returns : goal.returns
returns c =
    four_looked_up c.args.bytes.now _ _ _ _ c.requires (λ i. omega (arith, c.type_inv.bytes i))
    c.near.ensures c.near-2.ensures c.near-3.ensures c.near-4.ensures
