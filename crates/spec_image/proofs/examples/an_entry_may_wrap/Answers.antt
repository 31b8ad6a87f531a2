use Rattle.spec_image.proofs.SampleJournalLemmas.{wrapped_entries, wrapped_slot, wrapped_number, wrapped_stale, wrapped_after}
use Rattle.spec_image.proofs.examples.an_entry_may_wrap.Goals as goal

pub returns-clause-entries : goal.returns-clause-entries
returns-clause-entries c = wrapped_entries

pub returns-clause-slot : goal.returns-clause-slot
returns-clause-slot c = wrapped_slot

pub returns-clause-number : goal.returns-clause-number
returns-clause-number c = wrapped_number

pub returns-clause-stale : goal.returns-clause-stale
returns-clause-stale c = wrapped_stale

pub returns-clause-after : goal.returns-clause-after
returns-clause-after c = wrapped_after
