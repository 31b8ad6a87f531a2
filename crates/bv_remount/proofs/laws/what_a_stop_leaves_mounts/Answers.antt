use Rattle.bv_remount.proofs.RemountLemmas.{remounts}
use Rattle.bv_remount.proofs.laws.what_a_stop_leaves_mounts.Goals as goal

pub returns : goal.returns
returns c = remounts
