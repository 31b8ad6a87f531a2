-- What stops of the machine leave of a disk, where no torn entry matches its checksum by chance (this
-- project's profile). `base` is the disk as it was, and `events` are what a device did to it since.
use Rattle.std.specs.Prelude.{◌<◌, ◌≤◌, ◌++◌, ℕ, List, length, take}
use Rattle.spec_disk.specs.declared.event.Event.{Event}
use Rattle.spec_disk.specs.Disk.{Blocks}
use Rattle.spec_disk.specs.Images.{IsImage}
use Rattle.spec_image.specs.Chance.{NoChance}

-- each image after all these events, but by chance, has P
abbrev pub Leaves : Blocks → List Event → (Blocks → Type 0) → Type 0
Leaves base events P = (j : Blocks) → IsImage base events j → NoChance base events j → P j

-- each image of each prefix that is longer than `events`, but by chance, has P
abbrev pub LeavesWithin : Blocks → List Event → List Event → (Blocks → Type 0) → Type 0
LeavesWithin base events more P =
    (n : ℕ) → length events < n → n ≤ length (events ++ more)
    → Leaves base (take n (events ++ more)) P
