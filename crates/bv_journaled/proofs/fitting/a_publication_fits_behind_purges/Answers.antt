use Rattle.bv_journaled.proofs.PublishLemmas.{publish_fits}
use Rattle.bv_journaled.proofs.fitting.a_publication_fits_behind_purges.Goals as goal

pub returns : goal.returns
returns c = publish_fits
