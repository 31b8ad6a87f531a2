use Rattle.bv_journaled.proofs.EntryLemmas.{changed_map}
use Rattle.bv_journaled.proofs.laws.changes_that_fit_keep_their_map.Goals as goal

pub returns : goal.returns
returns c = changed_map
