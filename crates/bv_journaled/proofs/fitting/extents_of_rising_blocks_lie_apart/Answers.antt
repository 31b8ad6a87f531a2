use Rattle.bv_journaled.proofs.ExtentLemmas.{runs_lie, runs_once, runs_within}
use Rattle.bv_journaled.proofs.fitting.extents_of_rising_blocks_lie_apart.Goals as goal

pub returns : goal.returns
returns c = record { lie = runs_lie; once = runs_once; within = runs_within }
