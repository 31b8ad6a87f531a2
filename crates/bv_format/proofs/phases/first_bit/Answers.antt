use Rattle.std.proofs.Common.{List, ℕ, set, ap, ◌∙◌}
use Rattle.bv_format.proofs.PhaseLemmas.{first_bit-is}
use Rattle.bv_format.proofs.phases.first_bit.Goals as goal

pub returns : goal.returns
returns c = ap (λ (bytes : List ℕ). set bytes 0 1) c.zeros-block.ensures ∙ first_bit-is
