use Rattle.spec_image.proofs.SampleNodeLemmas.{metadata_good, metadata_orphan, metadata_overlap, metadata_twice, metadata_bit, metadata_counts}
use Rattle.spec_image.proofs.examples.metadata_may_be_well_formed.Goals as goal

pub returns-clause-well_formed : goal.returns-clause-well_formed
returns-clause-well_formed c = metadata_good

pub returns-clause-orphan : goal.returns-clause-orphan
returns-clause-orphan c = metadata_orphan

pub returns-clause-overlap : goal.returns-clause-overlap
returns-clause-overlap c = metadata_overlap

pub returns-clause-root_twice : goal.returns-clause-root_twice
returns-clause-root_twice c = metadata_twice

pub returns-clause-bit_past_the_blocks : goal.returns-clause-bit_past_the_blocks
returns-clause-bit_past_the_blocks c = metadata_bit

pub returns-clause-count : goal.returns-clause-count
returns-clause-count c = metadata_counts
