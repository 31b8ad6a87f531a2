use Rattle.spec_laws.proofs.NodeLemmas.{nodes_fit}
use Rattle.spec_laws.proofs.FitLemmas.{records_fit, image_fits, mount_fits}
use Rattle.spec_laws.proofs.laws.the_blobs_of_an_image_fit.Goals as goal

pub returns-clause-blocks : goal.returns-clause-blocks
returns-clause-blocks c = records_fit

pub returns-clause-nodes : goal.returns-clause-nodes
returns-clause-nodes c = nodes_fit

pub returns-clause-map : goal.returns-clause-map
returns-clause-map c = image_fits

pub returns-clause-room : goal.returns-clause-room
returns-clause-room c = mount_fits
