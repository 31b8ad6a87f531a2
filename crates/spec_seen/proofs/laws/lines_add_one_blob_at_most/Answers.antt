use Rattle.spec_seen.proofs.ByLineLemmas.{lines_add_once}
use Rattle.spec_seen.proofs.laws.lines_add_one_blob_at_most.Goals as goal

pub returns : goal.returns
returns c = lines_add_once
