use Rattle.spec_unmounted.proofs.Leaving.{leaves_all}
use Rattle.spec_unmounted.proofs.laws.an_unmount_leaves_every_change.Goals as goal

pub returns : goal.returns
returns c = leaves_all
