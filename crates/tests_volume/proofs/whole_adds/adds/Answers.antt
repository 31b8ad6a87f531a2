use Rattle.bv_session.proofs.WrittenLemmas.{plan_is}
use Rattle.tests_volume.proofs.whole_adds.adds.Goals as goal

pub add_whole-requires-clause-blob : goal.add_whole-requires-clause-blob
add_whole-requires-clause-blob g c = plan_is _ 1 _ c.in_ok-adding.ensures
