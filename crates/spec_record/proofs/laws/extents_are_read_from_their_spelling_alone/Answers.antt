use Rattle.spec_record.proofs.ExtentLemmas.{extent_is_read}
use Rattle.spec_record.proofs.laws.extents_are_read_from_their_spelling_alone.Goals as goal

pub returns : goal.returns
returns c = extent_is_read
