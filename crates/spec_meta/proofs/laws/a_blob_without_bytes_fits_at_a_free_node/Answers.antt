use Rattle.spec_meta.proofs.FitLemmas.{empty_blob_fits}
use Rattle.spec_meta.proofs.laws.a_blob_without_bytes_fits_at_a_free_node.Goals as goal

pub returns : goal.returns
returns c = empty_blob_fits
