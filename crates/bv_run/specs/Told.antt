-- What a run of sessions makes of a device that tells, wherever the machine stops.
use Rattle.std.specs.Prelude.{◌≡◌, ◌⊎◌, ℕ, List, [], Option, None, Some}
use Rattle.spec_disk.specs.declared.event.Event.{Event}
use Rattle.spec_disk.specs.Disk.{Blocks}
use Rattle.spec_disk.specs.Images.{IsSettled}
use Rattle.spec_record.specs.declared.geometry.Geometry.{Geometry}
use Rattle.spec_core.specs.History.{History}
use Rattle.spec_crash.specs.Format.{FormatStop, IsEmptyVolume}
use Rattle.spec_headline.specs.Run.{HasSoundBlobs, HasWholeBlobs, MetMismatch, Seen}
use Rattle.spec_headline.specs.Headline.{Headline, Survives, LeavesSettled, LeavesSound, IsUnmounted}
use Rattle.bv_device.specs.Told.{Disk, now_of, disk_with}
use Rattle.bv_run.specs.Reports.{Answer, NotBegun, OutOfMemory, Done}

-- The premises: with a volume that is there, the device is settled, and the volume well formed and each
-- of its blobs whole. With one that is made first there is none.
abbrev pub Premises : Option Geometry → Disk → Type 0
Premises None d = IsSettled d.trace × HasWholeBlobs (now_of d)
Premises (Some g) d = Unit {0}

-- a volume of these counts is made on the disk, or was begun to be: each stop leaves what one of
-- `format` may
abbrev pub IsMaking : Option Geometry → Disk → Disk → Type 0
IsMaking None d e = ⊥
IsMaking (Some g) d e =
    (events : List Event) × (e ≡ disk_with d events) × FormatStop d.base d.trace events g

-- The sessions' disk: what the device had as the command began, or what the last sync of the making of
-- a volume left.
abbrev pub IsOpening : Option Geometry → Disk → Disk → Type 0
IsOpening None d made = made ≡ d
IsOpening (Some g) d made =
    IsMaking (Some g) d made × IsSettled made.trace × IsEmptyVolume g (now_of made)

-- What holds of the device's events from the sessions' disk on, and which blobs are there, whole and
-- sound, after `unmounted`. The results say of the device what they should, also once a write or sync
-- has failed: a mismatch is the first failure of the first window that doesn't verify there, and the
-- bytes of a read are those of the blob. Over a volume each of whose blobs was sound there is no
-- mismatch. A run that was refused has no event of its own, and each stop leaves the blobs that there
-- were.
abbrev pub HoldsFrom : Blocks → List Event → Answer → Type 0
HoldsFrom base events (NotBegun refusal) =
    (h : History) × (next : ℕ) × (h.events ≡ []) × Survives base events h next
HoldsFrom base events (OutOfMemory run next) = Survives base events run.history next
HoldsFrom base events (Done run next) =
    Headline base events run next
    × (IsUnmounted run.history
    → LeavesSettled base events run.history × LeavesSound base events run.history)
    × Seen base events run
    × (HasSoundBlobs base → ¬ MetMismatch run)

-- what holds from the sessions' disk on
pub record HoldsSince (made : Option Geometry) (answer : Answer) (d e : Disk) : Type 0 where
  pub opening : Disk
  pub is_opening : IsOpening made d opening
  pub events : List Event
  pub is : e ≡ disk_with opening events
  pub holds : HoldsFrom (now_of opening) events answer

-- a run that was refused left the device as it was, or was cut short in the making of its volume, or
-- behind it, or in mounting it
abbrev pub IsTold : Option Geometry → Answer → Disk → Disk → Type 0
IsTold made (NotBegun refusal) d e =
    (e ≡ d)
    ⊎ (IsMaking made d e ⊎ (IsOpening made d e ⊎ HoldsSince made (NotBegun refusal) d e))
IsTold made answer d e = HoldsSince made answer d e
