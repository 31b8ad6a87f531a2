use Rattle.spec_record.proofs.PartLemmas.{magics_are_bytes}
use Rattle.spec_record.proofs.laws.magics_are_stored_as_their_bytes.Goals as goal

pub returns : goal.returns
returns c = magics_are_bytes
