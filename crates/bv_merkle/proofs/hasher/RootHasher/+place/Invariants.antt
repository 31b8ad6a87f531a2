use Rattle.std.proofs.Common.{◌-◌}
use Rattle.bv_merkle.proofs.hasher.RootHasher.+place.Given as goal

abbrev pub decreases-place : goal.decreases-place
decreases-place l = 7 - l.level
