use Rattle.bv_journaled.proofs.CallLemmas.{append_stops, append_done}
use Rattle.bv_journaled.proofs.laws.an_append_keeps_the_map_or_makes_its_own.Goals as goal

pub returns : goal.returns
returns c = record { stops = append_stops; done = append_done }
