use Rattle.bv_mounted.proofs.CallerLemmas.{inspect_gives}
use Rattle.tests_volume.proofs.histories.mounted.Goals as goal

pub mount-requires-clause-gives : goal.mount-requires-clause-gives
mount-requires-clause-gives g c = inspect_gives c.in-Ok.inspected _ _ c.in-Ok.ensures.reads
