-- What a run of a device's events keeps that changes no blob: a recovery, or an upgrade of a volume.
use Rattle.std.specs.Prelude.{◌≤◌, ℕ, List, length, take}
use Rattle.spec_tree.specs.declared.Digest.{Digest}
use Rattle.spec_tree.specs.declared.blob.Blob.{Blob}
use Rattle.spec_disk.specs.declared.event.Event.{Event}
use Rattle.spec_disk.specs.Disk.{Blocks}
use Rattle.spec_image.specs.Leaves.{Leaves}
use Rattle.spec_crash.specs.Crash.{HoldsWhole}

-- each image of each prefix of the events, but by chance, has these blobs, and every one whole
abbrev pub KeepsBlobs : Blocks → List Event → List (Digest × Blob) → Type 0
KeepsBlobs base events held =
    (n : ℕ) → n ≤ length events → Leaves base (take n events) (λ j. HoldsWhole j held)
