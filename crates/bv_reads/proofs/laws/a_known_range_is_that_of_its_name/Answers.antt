use Rattle.bv_reads.proofs.RangeLemmas.{range_is}
use Rattle.bv_reads.proofs.laws.a_known_range_is_that_of_its_name.Goals as goal

pub returns : goal.returns
returns c = λ r v from to reading bytes long name order few within knows. range_is r v from to reading bytes long name knows order few within
