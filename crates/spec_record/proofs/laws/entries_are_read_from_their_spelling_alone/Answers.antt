use Rattle.spec_record.proofs.EntryLemmas.{entry_is_read, entry_takes_slots, entry_is_one}
use Rattle.spec_record.proofs.laws.entries_are_read_from_their_spelling_alone.Goals as goal

pub returns-clause-read : goal.returns-clause-read
returns-clause-read c = entry_is_read

pub returns-clause-slots : goal.returns-clause-slots
returns-clause-slots c = entry_takes_slots

pub returns-clause-one : goal.returns-clause-one
returns-clause-one c = entry_is_one
