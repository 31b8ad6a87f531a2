use Rattle.spec_image.proofs.SampleNodeLemmas.{chain_container, chain_past, chain_previous, chain_version, chain_count, chain_first, chain_extent}
use Rattle.spec_image.proofs.examples.a_chain_names_its_first_fault.Goals as goal

pub returns-clause-no_inode : goal.returns-clause-no_inode
returns-clause-no_inode c = chain_container

pub returns-clause-link_past_the_nodes : goal.returns-clause-link_past_the_nodes
returns-clause-link_past_the_nodes c = chain_past

pub returns-clause-other_previous_node : goal.returns-clause-other_previous_node
returns-clause-other_previous_node c = chain_previous

pub returns-clause-other_version : goal.returns-clause-other_version
returns-clause-other_version c = chain_version

pub returns-clause-not_full : goal.returns-clause-not_full
returns-clause-not_full c = chain_count

pub returns-clause-not_full_first : goal.returns-clause-not_full_first
returns-clause-not_full_first c = chain_first

pub returns-clause-extent_past_the_end : goal.returns-clause-extent_past_the_end
returns-clause-extent_past_the_end c = chain_extent
