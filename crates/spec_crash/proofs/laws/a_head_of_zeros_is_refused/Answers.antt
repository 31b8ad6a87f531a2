-- The first magic reads as 0.
use Rattle.spec_crash.proofs.FormatLemmas.{head-refused}
use Rattle.spec_crash.proofs.laws.a_head_of_zeros_is_refused.Goals as goal

pub returns : goal.returns
returns c = head-refused
