-- Where the blobs of the map lie, by the history.
use Rattle.std.specs.Prelude.{◌≡◌, ℕ, List, [], map, Option, Some, None, IfSome}
use Rattle.spec_disk.specs.Images.{IsSettled}
use Rattle.spec_record.specs.Geometry.{block_at}
use Rattle.spec_record.specs.declared.geometry.Geometry.{Geometry}
use Rattle.spec_tree.specs.declared.Digest.{Digest}
use Rattle.spec_core.specs.History.{History}
use Rattle.spec_core.specs.State.{find}
use Rattle.spec_served.specs.Adds.{AreByLine}
use Rattle.spec_served.specs.Places.{blocks_by, publisher}
use Rattle.bv_device.specs.Told.{Disk, now_of}

-- these data blocks are those that the root's last publication put, else those of the blob in the
-- opening image; `b` is the device when the mount began, and `d` what is told
abbrev pub LiesBy : Geometry → Disk → Disk → History → Digest → List ℕ → Type 0
LiesBy g b d h root places =
    map (block_at g) places
    ≡ blocks_by (now_of b) d.trace h.events root (publisher root None h.events)

-- each blob lies where the history says, where the device tells and was settled at the mount, and
-- lines made the events
abbrev pub Located
    : History → Geometry → Option Disk → Option Disk → List (Digest × List ℕ) → Type 0
Located h g began told placed =
    IfSome began (λ b. IsSettled b.trace → AreByLine [] h.events → IfSome told (λ d.
    (r : Digest) (places : List ℕ) → find placed r ≡ Some places → LiesBy g b d h r places))
