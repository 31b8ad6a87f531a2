use Rattle.bv_journaled.proofs.EntryLemmas.{written_kept}
use Rattle.bv_journaled.proofs.laws.a_blob_that_lasts_is_kept.Goals as goal

pub returns : goal.returns
returns c = written_kept
