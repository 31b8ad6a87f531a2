use Rattle.spec_reuse.proofs.ReuseLemmas.{fits_again}
use Rattle.spec_reuse.proofs.laws.a_purged_blob_fits_again.Goals as goal

pub returns : goal.returns
returns c = fits_again
