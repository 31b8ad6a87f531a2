use Rattle.spec_seen.proofs.VersionLemmas.{map_versions}
use Rattle.spec_seen.proofs.laws.a_blob_of_the_map_has_its_publishers_version.Goals as goal

pub returns : goal.returns
returns c = map_versions
