use Rattle.spec_orderly.proofs.Naming.{told_all}
use Rattle.spec_orderly.proofs.laws.conforming_sessions_tell_the_roots.Goals as goal

pub returns : goal.returns
returns c = told_all
