-- The one image is the disk itself, and no change is logged.
use Rattle.spec_crash.proofs.CrashLemmas.{CrashPrefix-fresh}
use Rattle.spec_crash.proofs.laws.a_fresh_mount_keeps_its_blobs.Goals as goal

pub returns : goal.returns
returns c = CrashPrefix-fresh
