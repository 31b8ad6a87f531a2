-- What a mounted volume's history opens with, and what a stop of the machine leaves as it goes on.
use Rattle.std.specs.Prelude.{◌≡◌, ◌⊎◌, List, Some, IfSome, IsSomeAnd}
use Rattle.spec_disk.specs.declared.event.Event.{Event}
use Rattle.spec_disk.specs.Images.{IsSettled}
use Rattle.spec_inspect.specs.declared.mount_fault.MountFault.{MountFault}
use Rattle.spec_headline.specs.Headline.{Survives}
use Rattle.spec_headline.specs.Run.{HasWholeBlobs, OpensWith}
use Rattle.bv_claims.specs.declared.claims.Claims.{Claims}
use Rattle.bv_device.specs.Seen.{Seen}
use Rattle.bv_device.specs.Told.{disk_with, now_of}
use Rattle.bv_mount.specs.declared.inspected.Inspected.{Inspected}
use Rattle.bv_volume.specs.Seen.{Seen as Volume, IsSafe}
use Rattle.bv_mounted.specs.Mounts.{Gives, Mounts, Refused, history_of}

-- a volume later in a mount: the mount began with the same, and the device tells of the disk that it
-- told of then
pub record GoesOn (first last : Volume) : Type 0 where
  pub opening : last.history.opening ≡ first.history.opening
  pub blocks : last.history.blocks ≡ first.history.blocks
  pub nodes : last.history.nodes ≡ first.history.nodes
  pub version : last.history.version ≡ first.history.version
  pub next : last.next ≡ first.next
  pub began : last.store.began ≡ first.store.began
  pub disk : IfSome last.store.began (λ b.
      IsSomeAnd last.store.told (λ d. d.base ≡ now_of b))

-- on a settled device that tells, the history of a mounted volume opens with the blobs, the counts
-- and the next number of the device's image, also later in the mount
abbrev pub OpensWithItsImage : Type 0
OpensWithItsImage =
    (old : Seen) (i : Inspected) (claims : Claims) (v w : Volume)
    → Mounts old i claims v → Gives old i → GoesOn v w
    → IfSome old.told (λ d. IsSettled d.trace → OpensWith (now_of d) w.history w.next)

-- where each blob of that image was whole, the volume survives each stop: whatever the device has
-- done since, some first changes of the log are left, each blob whole
abbrev pub SurvivesFromItsImage : Type 0
SurvivesFromItsImage =
    (old : Seen) (i : Inspected) (claims : Claims) (v w : Volume)
    → Mounts old i claims v → Gives old i → GoesOn v w → IsSafe w
    → IfSome old.told (λ d. IsSettled d.trace → HasWholeBlobs (now_of d)
    → IsSomeAnd w.store.told (λ e.
    (e.base ≡ now_of d) × Survives (now_of d) e.trace w.history w.next))

-- A mount that was refused left the device as it was; or some writes and syncs of the recovery came,
-- and whatever a stop leaves of them has the blobs of the image, as with a history without an event.
abbrev pub RefusedMountsSurvive : Type 0
RefusedMountsSurvive =
    (old : Seen) (i : Inspected) (new : Seen) (f : MountFault)
    → Gives old i → Refused old i new f
    → IfSome old.told (λ d. IsSettled d.trace → HasWholeBlobs (now_of d)
    → (new ≡ old)
    ⊎ ((events : List Event) × (new.told ≡ Some (disk_with d events))
    × Survives (now_of d) events (history_of i) i.replay.next_number))
