use Rattle.std.proofs.Common.{arith}
use Rattle.bv_journaled.proofs.drawing.tell_bytes.Goals as goal

pub returns : goal.returns
returns c = λ i. omega (arith, c.type_inv._bytes i)
