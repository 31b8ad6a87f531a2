use Rattle.spec_record.proofs.InfoLemmas.{info_is_read, info_is_block, info_is_one}
use Rattle.spec_record.proofs.laws.infos_are_read_from_their_spelling_alone.Goals as goal

pub returns-clause-read : goal.returns-clause-read
returns-clause-read c = info_is_read

pub returns-clause-block : goal.returns-clause-block
returns-clause-block c = info_is_block

pub returns-clause-one : goal.returns-clause-one
returns-clause-one c = info_is_one
