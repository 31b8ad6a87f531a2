use Rattle.spec_image.proofs.EmptyLemmas.{BeginsEmpty-is}
use Rattle.spec_image.proofs.laws.a_volume_begins_empty.Goals as goal

pub returns-clause-made : goal.returns-clause-made
returns-clause-made c = λ g j lawful begins. (BeginsEmpty-is g j lawful begins).0

pub returns-clause-empty : goal.returns-clause-empty
returns-clause-empty c = λ g j lawful begins. (BeginsEmpty-is g j lawful begins).1
