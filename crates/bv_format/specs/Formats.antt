-- What `format` does to a device, whichever way it ends.
use Rattle.std.specs.Prelude.{◌≡◌, List, length, Option, Some, IfSome, Result, OnOk}
use Rattle.spec_disk.specs.declared.event.Event.{Event}
use Rattle.spec_disk.specs.Disk.{Blocks}
use Rattle.spec_disk.specs.Images.{IsSettled}
use Rattle.spec_record.specs.declared.geometry.Geometry.{Geometry}
use Rattle.spec_image.specs.Empty.{BeginsEmpty}
use Rattle.spec_crash.specs.Format.{FormatStop, IsEmptyVolume}
use Rattle.bv_device.specs.Told.{Disk, MayLeave, now_of, disk_with}
use Rattle.bv_device.specs.Plan.{Follows, CountsCalls}
use Rattle.bv_device.specs.Seen.{Seen}
use Rattle.bv_format.specs.declared.fault.FormatFault.{FormatFault}
use Rattle.bv_format.specs.Plan.{format_plan}
use Rattle.bv_format.specs.Answers.{CountsFault}

-- since d some events came, and a stop after any number of them leaves the old head, no volume, or
-- the new one
pub record StopsWell (g : Geometry) (d : Disk) (told : Option Disk) : Type 0 where
  pub events : List Event
  pub is : told ≡ Some (disk_with d events)
  pub stop : FormatStop d.base d.trace events g

-- the volume is made: nothing is pending, and Now, the one image, is a volume without a blob
pub record IsMade (g : Geometry) (d : Disk) : Type 0 where
  pub settled : IsSettled d.trace
  pub begins : BeginsEmpty g (now_of d)
  pub now : IsEmptyVolume g (now_of d)
  pub image : (j : Blocks) → MayLeave d j → j ≡ now_of d

-- what `format` made of a device: `old` is at the call, `new` at its end
pub record Formats (g : Geometry) (result : Result (Unit {0}) FormatFault) (old new : Seen)
    : Type 0 where
  -- all of the plan at Ok, and at an error a beginning of it
  pub plan : Follows result (format_plan g) old.told new.told
  pub blocks : new.block_count ≡ old.block_count
  pub calls : CountsCalls (length (format_plan g)) old.calls_made new.calls_made result
  pub device : CountsFault result old.fault_count new.fault_count
  pub stops : IfSome old.told (λ d. StopsWell g d new.told)
  pub made : OnOk result (IfSome old.told (λ d. IfSome new.told (λ e. IsMade g e)))
