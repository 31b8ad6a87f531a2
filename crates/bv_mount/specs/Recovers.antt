-- What recovering a device does to it, and what it answers (this project's profile).
use Rattle.std.specs.Prelude.{◌≡◌, ◌⊎◌, ◌≤◌, ℕ, List, [], length, take, Option, Some, None, IfSome, Result, Ok, Err, IfOk, IfErr, OnOk}
use Rattle.spec_disk.specs.declared.event.Event.{Event}
use Rattle.spec_disk.specs.Disk.{Blocks}
use Rattle.spec_disk.specs.Images.{IsSettled}
use Rattle.spec_tree.specs.declared.Digest.{Digest}
use Rattle.spec_record.specs.declared.info.Info.{Info}
use Rattle.spec_image.specs.Leaves.{Leaves}
use Rattle.spec_image.specs.Volume.{blobs, IsWhole}
use Rattle.bv_device.specs.Told.{Disk, now_of, disk_with}
use Rattle.bv_device.specs.Seen.{Seen, Performs}
use Rattle.bv_device.specs.Reads.{ReadsRight, Reads, Sees}
use Rattle.bv_journal.specs.Plans.{recover_plan}
use Rattle.bv_journal.specs.Rests.{AtRest}
use Rattle.spec_inspect.specs.declared.mount_fault.MountFault.{MountFault}
use Rattle.spec_inspect.specs.declared.mount_fault.MountFault.TheVariants as mount
use Rattle.spec_inspect.specs.Inspection.{Inspection, inspect_of}
use Rattle.bv_mount.specs.Reports.{mount_reported_by}
use Rattle.bv_mount.specs.Inspects.{RefusesMount}

-- where the next entry stands, once the journal is empty
abbrev pub next_for : Inspection → Info
next_for i = record { start = i.replay.next_slot; number = i.replay.next_number }

-- the writes and syncs that recover a volume: none where no entry was accepted and no slot is stale
abbrev pub plan_for : Inspection → List Event
plan_for i = recover_plan i.geometry i.replay.entries i.replay.stale (next_for i)

-- j has the blobs of an image, and each that is whole there is whole
pub record HasBlobsOf (image j : Blocks) : Type 0 where
  pub map : blobs j ≡ blobs image
  pub whole : (root : Digest) → IsWhole image root → IsWhole j root

-- since d these events came, and whatever a stop after any of them leaves, or before the first, has
-- the blobs that were there, but where a torn entry matches by chance
pub record KeepsVolume (d : Disk) (told : Option Disk) : Type 0 where
  pub events : List Event
  pub is : told ≡ Some (disk_with d events)
  pub stops : (k : ℕ) → k ≤ length events
      → Leaves (now_of d) (take k events) (HasBlobsOf (now_of d))

-- Now has the blobs that were there
abbrev pub KeepsNow : Disk → Option Disk → Type 0
KeepsNow d told = IfSome told (λ e. HasBlobsOf (now_of d) (now_of e))

-- no write since the last Ok sync
abbrev pub Settles : Option Disk → Type 0
Settles told = IfSome told (λ e. IsSettled e.trace)

-- after the plan the journal is empty and at rest: no slot is stale, and the next entry stands where
-- it would have stood
abbrev pub RestsAfter : Inspection → Blocks → Type 0
RestsAfter i image =
    AtRest i.geometry (next_for i) [] None i.meta (record { base = image; trace = plan_for i })

-- nothing was recovered: the refusal is the one that is due, and the device was only read
pub record RefusesRecovery (result : Result ℕ MountFault) (old new : Seen) : Type 0 where
  pub fault : MountFault
  pub is : result ≡ Err fault
  pub reads : Reads (mount_reported_by fault) old new (λ j. RefusesMount (inspect_of j) fault)

-- A run of a plan over the volume that reads gave. At Ok the plan was done, and the answer is how many
-- entries were replayed; else a call of the device failed, whose count of faults is answered.
pub record RunsPlan
    (found : Inspection) (plan : List Event) (result : Result ℕ MountFault) (old new : Seen)
    : Type 0 where
  pub seen : Sees old (λ j. inspect_of j ≡ Ok found)
  pub performs : Performs result plan old new
  pub count : IfOk result (λ count. count ≡ length found.replay.entries)
  pub fault : IfErr result (λ f. f ≡ mount.DeviceFault new.fault_count)
  -- where the device was settled: whatever a stop leaves, at Ok and at an error, has the blobs
  pub keeps : IfSome old.told (λ d. IsSettled d.trace → KeepsVolume d new.told)
  -- at Ok Now has them too, and a settled device is settled
  pub now : OnOk result (IfSome old.told (λ d. ReadsRight d → KeepsNow d new.told))
  pub settled : OnOk result (IfSome old.told (λ d. IsSettled d.trace → Settles new.told))

-- a recovery ran
pub record RunsRecovery (result : Result ℕ MountFault) (old new : Seen) : Type 0 where
  pub found : Inspection
  pub run : RunsPlan found (plan_for found) result old new
  -- at Ok the journal is at rest
  pub rests : OnOk result (IfSome old.told (λ d. ReadsRight d → RestsAfter found (now_of d)))

-- what recovering a device does
abbrev pub Recovers : Result ℕ MountFault → Seen → Seen → Type 0
Recovers result old new = RefusesRecovery result old new ⊎ RunsRecovery result old new
