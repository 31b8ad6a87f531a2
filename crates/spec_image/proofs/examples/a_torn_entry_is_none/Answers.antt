use Rattle.spec_image.proofs.SampleJournalLemmas.{no_commit, no_payload, no_header, no_commit_stale, no_header_stale}
use Rattle.spec_image.proofs.examples.a_torn_entry_is_none.Goals as goal

pub returns-clause-commit : goal.returns-clause-commit
returns-clause-commit c = no_commit

pub returns-clause-payload : goal.returns-clause-payload
returns-clause-payload c = no_payload

pub returns-clause-header : goal.returns-clause-header
returns-clause-header c = no_header

pub returns-clause-stale_header : goal.returns-clause-stale_header
returns-clause-stale_header c = no_commit_stale

pub returns-clause-stale_commit : goal.returns-clause-stale_commit
returns-clause-stale_commit c = no_header_stale
