-- A write counts by its place and bytes alone, and a failed sync counts for nothing.
use Rattle.std.proofs.Common.{[], ◌∷◌, ◌++◌, true, false, sym}
use Rattle.spec_disk.specs.declared.event.Event.TheVariants.{Sync}
use Rattle.spec_disk.proofs.EventLemmas.{candidates-push_failed_sync}
use Rattle.spec_disk.proofs.ImageLemmas.{IsImageWith-from, IsImageWith-to, image-same_candidates}
use Rattle.spec_disk.proofs.laws.a_failure_leaves_known_images.Goals as goal

pub returns-clause-write : goal.returns-clause-write
returns-clause-write c = λ base j p at bytes. (
  λ image. IsImageWith-to base p at bytes true j (IsImageWith-from base p at bytes false j image),
  λ image. IsImageWith-to base p at bytes false j (IsImageWith-from base p at bytes true j image),
)

pub returns-clause-sync : goal.returns-clause-sync
returns-clause-sync c = λ base j p. (
  image-same_candidates base (p ++ Sync false ∷ []) p j (candidates-push_failed_sync base p),
  image-same_candidates base p (p ++ Sync false ∷ []) j (λ b s. sym (candidates-push_failed_sync base p b s)),
)
