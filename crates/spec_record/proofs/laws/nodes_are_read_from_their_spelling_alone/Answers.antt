use Rattle.spec_record.proofs.NodeLemmas.{node_is_read, node_is_place, node_is_one}
use Rattle.spec_record.proofs.laws.nodes_are_read_from_their_spelling_alone.Goals as goal

pub returns-clause-read : goal.returns-clause-read
returns-clause-read c = node_is_read

pub returns-clause-place : goal.returns-clause-place
returns-clause-place c = node_is_place

pub returns-clause-one : goal.returns-clause-one
returns-clause-one c = node_is_one
