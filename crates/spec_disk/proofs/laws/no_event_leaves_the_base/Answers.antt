-- Nothing is pending before the first event.
use Rattle.std.proofs.Common.{[], refl, sym, subst}
use Rattle.spec_disk.specs.Images.{IsImage}
use Rattle.spec_disk.proofs.ImageLemmas.{image-settled, image-synced}
use Rattle.spec_disk.proofs.laws.no_event_leaves_the_base.Goals as goal

pub returns : goal.returns
returns c = λ base j. (image-settled base [] j (λ b. refl), λ is. subst (λ x. IsImage base [] x) (sym is) (image-synced base []))
