use Rattle.spec_image.proofs.WellFormedLemmas.{well_formed_parts, parts_well_formed}
use Rattle.spec_image.proofs.laws.well_formed_metadata_has_all_its_parts.Goals as goal

pub returns-clause-parts : goal.returns-clause-parts
returns-clause-parts c = well_formed_parts

pub returns-clause-tests : goal.returns-clause-tests
returns-clause-tests c = parts_well_formed
