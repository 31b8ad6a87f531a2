use Rattle.spec_record.proofs.SuperLemmas.{super_is_read, super_is_block, super_is_one}
use Rattle.spec_record.proofs.laws.superblocks_are_read_from_their_spelling_alone.Goals as goal

pub returns-clause-read : goal.returns-clause-read
returns-clause-read c = super_is_read

pub returns-clause-block : goal.returns-clause-block
returns-clause-block c = super_is_block

pub returns-clause-one : goal.returns-clause-one
returns-clause-one c = super_is_one
