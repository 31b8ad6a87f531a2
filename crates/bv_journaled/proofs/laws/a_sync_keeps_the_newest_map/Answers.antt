use Rattle.bv_journaled.proofs.CallLemmas.{sync_stops, sync_done}
use Rattle.bv_journaled.proofs.laws.a_sync_keeps_the_newest_map.Goals as goal

pub returns : goal.returns
returns c = record { stops = sync_stops; done = sync_done }
