-- Where nothing is pending, Synced is the one image, and Now is one.
use Rattle.std.proofs.Common.{sym, subst}
use Rattle.spec_disk.specs.Disk.{now_after}
use Rattle.spec_disk.specs.Images.{IsImage}
use Rattle.spec_disk.proofs.ImageLemmas.{image-now, image-settled, image-synced, IsSettled-push_sync}
use Rattle.spec_disk.proofs.laws.a_settled_disk_has_one_image.Goals as goal

pub returns-clause-image : goal.returns-clause-image
returns-clause-image c = λ base j p settled. (image-settled base p j settled, λ is. subst (λ x. IsImage base p x) (sym is) (image-synced base p))

pub returns-clause-now : goal.returns-clause-now
returns-clause-now c = λ base p settled. sym (image-settled base p (now_after base p) settled (image-now base p))

pub returns-clause-sync : goal.returns-clause-sync
returns-clause-sync c = IsSettled-push_sync
