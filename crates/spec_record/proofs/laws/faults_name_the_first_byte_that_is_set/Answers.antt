use Rattle.spec_record.proofs.PartLemmas.{fault_names_first_set}
use Rattle.spec_record.proofs.laws.faults_name_the_first_byte_that_is_set.Goals as goal

pub returns : goal.returns
returns c = fault_names_first_set
