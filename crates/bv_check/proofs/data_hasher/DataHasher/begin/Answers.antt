use Rattle.std.proofs.Common.{refl}
use Rattle.bv_check.proofs.HashLemmas.{begins}
use Rattle.bv_check.proofs.data_hasher.DataHasher.begin.Goals as goal

pub returns-clause-nothing : goal.returns-clause-nothing
returns-clause-nothing c = begins _ c.requires.idle refl refl refl
