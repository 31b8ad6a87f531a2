-- Nothing is pending after an Ok sync.
use Rattle.std.proofs.Common.{◌≡◌, [], ◌∷◌, ◌++◌, true, sym, ◌∙◌, subst}
use Rattle.spec_disk.specs.declared.event.Event.TheVariants.{Sync}
use Rattle.spec_disk.specs.Disk.{now_after, synced_after}
use Rattle.spec_disk.specs.Images.{IsImage}
use Rattle.spec_disk.proofs.EventLemmas.{synced_after-push_sync}
use Rattle.spec_disk.proofs.ImageLemmas.{image-settled, image-synced, IsSettled-push_sync}
use Rattle.spec_disk.proofs.laws.a_sync_leaves_now.Goals as goal

pub returns : goal.returns
returns c = λ base j p.
    let synced : synced_after base (p ++ Sync true ∷ []) ≡ now_after base p = synced_after-push_sync base p in (
      λ image. image-settled base (p ++ Sync true ∷ []) j (IsSettled-push_sync p) image ∙ synced,
      λ is. subst (λ x. IsImage base (p ++ Sync true ∷ []) x) (synced ∙ sym is) (image-synced base (p ++ Sync true ∷ [])),
    )
