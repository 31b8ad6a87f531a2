use Rattle.spec_seen.proofs.WhereLemmas.{stay_where}
use Rattle.spec_seen.proofs.laws.a_held_blob_stays_where_it_is.Goals as goal

pub returns : goal.returns
returns c = stay_where
