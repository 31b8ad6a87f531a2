use Rattle.spec_record.proofs.PartLemmas.{regions_follow, geometry_fits_entries}
use Rattle.spec_record.proofs.laws.regions_follow_one_another.Goals as goal

pub returns-clause-order : goal.returns-clause-order
returns-clause-order c = regions_follow

pub returns-clause-entries : goal.returns-clause-entries
returns-clause-entries c = geometry_fits_entries
