-- What a mount finds on a device that a stop of the machine left (this project's profile).
use Rattle.std.specs.Prelude.{◌≡◌, ◌≤◌, ℕ, List, [], length, take, All, Some}
use Rattle.spec_faults.specs.Faults.{Rose}
use Rattle.spec_disk.specs.declared.event.Event.{Event}
use Rattle.spec_disk.specs.Disk.{Blocks}
use Rattle.spec_disk.specs.Images.{IsImage}
use Rattle.spec_image.specs.Chance.{NoChance}
use Rattle.spec_image.specs.Volume.{IsWhole}
use Rattle.spec_core.specs.History.{History, opening_map}
use Rattle.spec_core.specs.Synced.{synced_by, logged_by}
use Rattle.spec_crash.specs.Crash.{IsLogLength, map_after}
use Rattle.spec_headline.specs.Headline.{Survives}
use Rattle.spec_inspect.specs.declared.mount_fault.MountFault.{MountFault}
use Rattle.spec_inspect.specs.declared.mount_fault.MountFault.TheVariants as mount
use Rattle.spec_inspect.specs.Inspection.{inspect_of}
use Rattle.bv_claims.specs.declared.claims.Claims.{Claims}
use Rattle.bv_device.specs.Seen.{Seen}
use Rattle.bv_device.specs.Reads.{Reads}
use Rattle.bv_mount.specs.declared.inspected.Inspected.{Inspected}
use Rattle.bv_mount.specs.Inspects.{RefusesMount}
use Rattle.bv_mount.specs.Reports.{mount_reported_by}
use Rattle.bv_volume.specs.Seen.{Seen as Volume}
use Rattle.bv_mounted.specs.Mounts.{Mounts, Refused}

-- nothing is wrong with the image: there was no memory, or a call of the device failed
abbrev pub IsOutside : MountFault → Seen → Seen → Type 0
IsOutside mount.NoMemory old new = Unit {0}
IsOutside (mount.DeviceFault count) old new = Rose old.fault_count new.fault_count
IsOutside why old new = ⊥

-- what `inspect` and `mount` answer of this device, whose blocks are these, after so many events of a
-- device that had this history
pub record Remounts (h : History) (calls : ℕ) (j : Blocks) (dev : Seen) : Type 0 where
  -- some first changes of the log: all that a sync made durable by then, none that wasn't yet logged,
  -- and of each event's changes all or none
  pub count : ℕ
  pub durable : synced_by h calls ≤ count
  pub logged : count ≤ logged_by h calls
  pub boundary : IsLogLength h count
  -- where an inspection is refused
  pub inspected : (new : Seen) (why : MountFault)
      → Reads (mount_reported_by why) dev new (λ i. RefusesMount (inspect_of i) why)
      → IsOutside why dev new
  -- where a mount is
  pub mounted : (i : Inspected) (new : Seen) (why : MountFault)
      → Refused dev i new why → IsOutside why dev new
  -- what is mounted opens with exactly the blobs after those changes
  pub opens : (i : Inspected) (claims : Claims) (v : Volume) → Mounts dev i claims v
      → opening_map v.history ≡ map_after h count
  -- each is whole
  pub whole : All (λ entry. IsWhole j entry.0) (map_after h count)

-- wherever a device stops that survives each stop, mounting what it leaves gives a prefix
abbrev pub WhatAStopLeavesMounts : Type 0
WhatAStopLeavesMounts =
    (base : Blocks) (events : List Event) (h : History) (next : ℕ)
    → Survives base events h next → (n : ℕ) (j : Blocks) → n ≤ length events
    → IsImage base (take n events) j → NoChance base (take n events) j
    → (dev : Seen) → dev.told ≡ Some (record { base = j; trace = [] }) → Remounts h n j dev
