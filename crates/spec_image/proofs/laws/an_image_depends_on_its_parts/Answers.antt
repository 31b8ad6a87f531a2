use Rattle.spec_image.proofs.SameLemmas.{replay_same, after_same}
use Rattle.spec_image.proofs.VolumeLemmas.{blobs_same, bytes_same}
use Rattle.spec_image.proofs.laws.an_image_depends_on_its_parts.Goals as goal

pub returns-clause-replay : goal.returns-clause-replay
returns-clause-replay c = replay_same

pub returns-clause-after : goal.returns-clause-after
returns-clause-after c = after_same

pub returns-clause-blobs : goal.returns-clause-blobs
returns-clause-blobs c = blobs_same

pub returns-clause-bytes : goal.returns-clause-bytes
returns-clause-bytes c = bytes_same
