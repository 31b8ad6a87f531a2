use Rattle.spec_meta.proofs.PatchLemmas.{replay_patches, patches_join}
use Rattle.spec_meta.proofs.laws.a_replay_patches_the_metadata.Goals as goal

pub returns-clause-replay : goal.returns-clause-replay
returns-clause-replay c = replay_patches

pub returns-clause-in_order : goal.returns-clause-in_order
returns-clause-in_order c = patches_join
