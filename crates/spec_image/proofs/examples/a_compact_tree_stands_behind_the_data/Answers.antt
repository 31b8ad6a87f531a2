use Rattle.spec_image.proofs.SampleTreeLemmas.{compact_first_level, compact_next_of_it, compact_second_level, compact_content}
use Rattle.spec_image.proofs.examples.a_compact_tree_stands_behind_the_data.Goals as goal

pub returns-clause-first_level : goal.returns-clause-first_level
returns-clause-first_level c = compact_first_level

pub returns-clause-next_of_it : goal.returns-clause-next_of_it
returns-clause-next_of_it c = compact_next_of_it

pub returns-clause-second_level : goal.returns-clause-second_level
returns-clause-second_level c = compact_second_level

pub returns-clause-content : goal.returns-clause-content
returns-clause-content c = compact_content
