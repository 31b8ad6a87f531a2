use Rattle.bv_mounted.proofs.OpensLemmas.{refused_mounts_survive}
use Rattle.bv_mounted.proofs.laws.a_refused_mount_survives.Goals as goal

pub returns : goal.returns
returns c = refused_mounts_survive
