use Rattle.spec_record.proofs.PartLemmas.{ring_is_cyclic, ring_is_whole}
use Rattle.spec_record.proofs.laws.slots_follow_one_another.Goals as goal

pub returns-clause-cyclic : goal.returns-clause-cyclic
returns-clause-cyclic c = ring_is_cyclic

pub returns-clause-whole : goal.returns-clause-whole
returns-clause-whole c = ring_is_whole
