use Rattle.spec_seen.proofs.HeldLemmas.{stay_published}
use Rattle.spec_seen.proofs.laws.a_held_blob_stays_published.Goals as goal

pub returns : goal.returns
returns c = stay_published
