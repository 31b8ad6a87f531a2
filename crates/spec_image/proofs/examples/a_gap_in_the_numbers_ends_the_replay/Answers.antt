use Rattle.spec_image.proofs.SampleJournalLemmas.{gap_entries, gap_stale}
use Rattle.spec_image.proofs.examples.a_gap_in_the_numbers_ends_the_replay.Goals as goal

pub returns-clause-entries : goal.returns-clause-entries
returns-clause-entries c = gap_entries

pub returns-clause-stale : goal.returns-clause-stale
returns-clause-stale c = gap_stale
