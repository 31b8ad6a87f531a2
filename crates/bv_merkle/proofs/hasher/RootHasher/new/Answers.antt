use Rattle.std.proofs.Common.{refl}
use Rattle.bv_merkle.specs.Hasher.{Holds}
use Rattle.bv_merkle.specs.Levels.{data_digests}
use Rattle.bv_merkle.proofs.StandsLemmas.{stands-none}
use Rattle.bv_merkle.proofs.hasher.RootHasher.new.Goals as goal

pub returns-clause-holds : goal.returns-clause-holds
unfolding Holds data_digests
returns-clause-holds c = (refl, stands-none _ 7 0)
