use Rattle.spec_image.proofs.SampleTreeLemmas.{padded_first_level, padded_next_of_it, padded_second_level, padded_content}
use Rattle.spec_image.proofs.examples.a_padded_tree_stands_before_the_data.Goals as goal

pub returns-clause-first_level : goal.returns-clause-first_level
returns-clause-first_level c = padded_first_level

pub returns-clause-next_of_it : goal.returns-clause-next_of_it
returns-clause-next_of_it c = padded_next_of_it

pub returns-clause-second_level : goal.returns-clause-second_level
returns-clause-second_level c = padded_second_level

pub returns-clause-content : goal.returns-clause-content
returns-clause-content c = padded_content
