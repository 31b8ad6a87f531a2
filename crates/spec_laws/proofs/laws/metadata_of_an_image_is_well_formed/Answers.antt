use Rattle.spec_laws.proofs.MetadataLemmas.{found}
use Rattle.spec_laws.proofs.laws.metadata_of_an_image_is_well_formed.Goals as goal

pub returns-clause-formed : goal.returns-clause-formed
returns-clause-formed c = λ j m e. (found j m e).formed

pub returns-clause-geometry : goal.returns-clause-geometry
returns-clause-geometry c = λ j m e. (found j m e).geometry

pub returns-clause-read : goal.returns-clause-read
returns-clause-read c = λ j m e. (found j m e).read
