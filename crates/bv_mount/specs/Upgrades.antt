-- What upgrading a device does to it, and what it answers (this project's profile).
use Rattle.std.specs.Prelude.{◌⊎◌, ◌==◌, ℕ, List, [], ◌++◌, if◌then◌else◌, Option, IfSome, Result, OnOk}
use Rattle.spec_disk.specs.declared.event.Event.{Event}
use Rattle.spec_disk.specs.Disk.{block}
use Rattle.spec_record.specs.declared.geometry.Geometry.{Geometry}
use Rattle.spec_record.specs.declared.superblock.Super.{Super}
use Rattle.spec_record.specs.Superblock.{super_bytes}
use Rattle.spec_image.specs.Volume.{HasGeometry}
use Rattle.spec_meta.specs.Blocks.{counts_in}
use Rattle.bv_device.specs.Told.{Disk, now_of}
use Rattle.bv_device.specs.Plan.{a_write, a_sync}
use Rattle.bv_device.specs.Seen.{Seen}
use Rattle.bv_device.specs.Reads.{ReadsRight}
use Rattle.spec_inspect.specs.declared.mount_fault.MountFault.{MountFault}
use Rattle.spec_inspect.specs.Inspection.{Inspection}
use Rattle.spec_upgrade.specs.Upgraded.{newest, newest_super}
use Rattle.bv_mount.specs.Recovers.{plan_for, RefusesRecovery, RunsPlan}

-- the superblock of an inspected volume
abbrev pub found_super : Inspection → Super
found_super i = counts_in i.geometry (block i.meta 0)

-- a superblock, made to last
abbrev pub super_plan : Super → List Event
super_plan s = a_write 0 (super_bytes s) ++ a_sync

-- the superblock with version 2, made to last; nothing where the volume has that version
abbrev pub newest_plan : Inspection → List Event
newest_plan i =
    if i.geometry.version == 1
    then super_plan (newest_super (found_super i))
    else []

-- the writes and syncs that upgrade a volume: it is recovered, and then its superblock is written
abbrev pub upgrade_plan : Inspection → List Event
upgrade_plan i = plan_for i ++ newest_plan i

-- Now has a superblock of this geometry
abbrev pub NowHas : Geometry → Option Disk → Type 0
NowHas g told = IfSome told (λ e. HasGeometry (now_of e) g)

-- an upgrade ran
pub record RunsUpgrade (result : Result ℕ MountFault) (old new : Seen) : Type 0 where
  pub found : Inspection
  pub run : RunsPlan found (upgrade_plan found) result old new
  -- at Ok the volume has version 2 and the counts that it had
  pub newest : OnOk result
      (IfSome old.told (λ d. ReadsRight d → NowHas (newest found.geometry) new.told))

-- what upgrading a device does; it is refused as a recovery is
abbrev pub Upgrades : Result ℕ MountFault → Seen → Seen → Type 0
Upgrades result old new = RefusesRecovery result old new ⊎ RunsUpgrade result old new
