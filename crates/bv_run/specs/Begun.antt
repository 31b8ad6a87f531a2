-- What the sessions begin with, and what the device has to do with a refusal.
use Rattle.std.specs.Prelude.{◌≡◌, ◌⊎◌, ℕ, Option, None, Some, IfSome, Ok, Err}
use Rattle.spec_disk.specs.Images.{IsSettled}
use Rattle.spec_faults.specs.Faults.{Rose}
use Rattle.spec_record.specs.declared.geometry.Geometry.{Geometry}
use Rattle.spec_inspect.specs.declared.mount_fault.MountFault.{MountFault}
use Rattle.spec_inspect.specs.Inspection.{inspect_of}
use Rattle.spec_headline.specs.Run.{Run, OpensWith}
use Rattle.bv_layout.specs.Counts.{counts_or_fault}
use Rattle.bv_device.specs.Seen.{Seen}
use Rattle.bv_device.specs.Reads.{Reads}
use Rattle.bv_device.specs.Told.{now_of}
use Rattle.bv_format.specs.declared.fault.FormatFault.{FormatFault}
use Rattle.bv_format.specs.declared.fault.FormatFault.TheVariants as fault
use Rattle.bv_format.specs.Answers.{IsShort}
use Rattle.bv_format.specs.Formats.{Formats}
use Rattle.bv_mount.specs.Inspects.{RefusesMount}
use Rattle.bv_serve.specs.declared.refusal.Refusal.{Refusal}
use Rattle.bv_serve.specs.declared.refusal.Refusal.TheVariants as refusals
use Rattle.bv_serve.specs.Format.{refusal_of}
use Rattle.bv_serve.specs.Lines.{mount_refusal}
use Rattle.bv_run.specs.Reports.{Answer, NotBegun, OutOfMemory, Done}

-- the device, on which a volume of these counts was made first, if one was to be made
abbrev pub IsMade : Option Geometry → Seen → Seen → Type 0
IsMade None old made = made ≡ old
IsMade (Some g) old made = Formats g (Ok tt) old made

-- a volume of these counts can't be made on so many blocks: the first count that is out of its limits,
-- or lawful counts and too few blocks
abbrev pub CannotMake : Geometry → ℕ → FormatFault → Type 0
CannotMake g blocks (fault.Counts field value) =
    counts_or_fault g ≡ Err (record { field = field; value = value })
CannotMake g blocks (fault.ShortDevice wanted has) = IsShort g blocks wanted has
CannotMake g blocks (fault.DeviceFault count) = ⊥

-- no volume was made, for this reason, and the device is as it was
abbrev pub RefusesCounts : Option Geometry → MountFault → Seen → Seen → Type 0
RefusesCounts None why old new = ⊥
RefusesCounts (Some g) why old new =
    (f : FormatFault) × CannotMake g old.block_count f × (refusal_of f ≡ refusals.Volume why)
    × (new ≡ old)

-- there is no volume, for this reason: it is the first that the inspection of the image finds that
-- reads give
pub record RefusesImage (made : Option Geometry) (why : MountFault) (old new : Seen) : Type 0 where
  pub before : Seen
  pub is_made : IsMade made old before
  pub named : mount_refusal why ≡ refusals.Volume why
  pub reads : Reads None before new (λ j. RefusesMount (inspect_of j) why)

-- what the device has to do with a refusal; want of memory may come at any device
abbrev pub IsRefusedBy : Option Geometry → Refusal → Seen → Seen → Type 0
IsRefusedBy made refusals.Usage old new = ⊥
IsRefusedBy made refusals.TooLong old new = new ≡ old
IsRefusedBy made (refusals.Script line kind) old new = new ≡ old
IsRefusedBy made refusals.SourceFault old new = new ≡ old
IsRefusedBy made refusals.DeviceFault old new = Rose old.fault_count new.fault_count
IsRefusedBy made (refusals.Volume why) old new =
    RefusesCounts made why old new ⊎ RefusesImage made why old new
IsRefusedBy made refusals.NoMemory old new = Unit {0}

-- The sessions began with the volume that was there, or was made: on a settled device that tells, the
-- history opens with the blobs and counts of its image, and its next entry has this number.
pub record Begins (made : Option Geometry) (run : Run) (next : ℕ) (old : Seen) : Type 0 where
  pub before : Seen
  pub is_made : IsMade made old before
  pub opens : IfSome before.told (λ d. IsSettled d.trace → OpensWith (now_of d) run.history next)

-- what a run began with, or why it didn't begin
abbrev pub BeginsBy : Option Geometry → Answer → Seen → Seen → Type 0
BeginsBy made (NotBegun refusal) old new = IsRefusedBy made refusal old new
BeginsBy made (OutOfMemory run next) old new = Begins made run next old
BeginsBy made (Done run next) old new = Begins made run next old
