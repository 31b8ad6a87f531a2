use Rattle.spec_image.proofs.SampleJournalLemmas.{next_entries, next_is}
use Rattle.spec_image.proofs.examples.the_next_entry_follows.Goals as goal

pub returns-clause-entries : goal.returns-clause-entries
returns-clause-entries c = next_entries

pub returns-clause-slot : goal.returns-clause-slot
returns-clause-slot c = next_is
