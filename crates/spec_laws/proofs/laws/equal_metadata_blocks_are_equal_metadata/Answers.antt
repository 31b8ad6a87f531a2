use Rattle.spec_laws.proofs.MetadataLemmas.{equal_metadata, equal_map}
use Rattle.spec_laws.proofs.laws.equal_metadata_blocks_are_equal_metadata.Goals as goal

pub returns-clause-metadata : goal.returns-clause-metadata
returns-clause-metadata c = equal_metadata

pub returns-clause-map : goal.returns-clause-map
returns-clause-map c = equal_map
