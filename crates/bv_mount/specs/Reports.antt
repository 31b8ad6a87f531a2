-- The counts of faults that answers report.
use Rattle.std.specs.Prelude.{ℕ, Option, Some, None, Result, Ok, Err}
use Rattle.bv_replay.specs.declared.replay.Replay.{Replay}
use Rattle.bv_replay.specs.declared.replay_fault.ReplayFault.{ReplayFault}
use Rattle.bv_replay.specs.declared.replay_fault.ReplayFault.TheVariants as scan
use Rattle.spec_inspect.specs.declared.open_fault.OpenFault.{OpenFault}
use Rattle.spec_inspect.specs.declared.open_fault.OpenFault.TheVariants as opening
use Rattle.spec_inspect.specs.declared.mount_fault.MountFault.{MountFault}
use Rattle.spec_inspect.specs.declared.mount_fault.MountFault.TheVariants as mount

-- the count that a fault reports, if it is one of the device
abbrev pub reported_by : OpenFault → Option ℕ
reported_by (opening.Super f) = None
reported_by (opening.Replay f) = None
reported_by opening.Moved = None
reported_by (opening.DeviceFault count) = Some count
reported_by opening.NoMemory = None

-- the count that an answer reports, if it does
abbrev pub reported : {A : Type 0} → Result A OpenFault → Option ℕ
reported (Ok x) = None
reported (Err f) = reported_by f

-- the count that a fault reports, if it is one of the device
abbrev pub mount_reported_by : MountFault → Option ℕ
mount_reported_by (mount.Super f) = None
mount_reported_by (mount.Replay f) = None
mount_reported_by mount.Moved = None
mount_reported_by (mount.Node node f) = None
mount_reported_by (mount.Overlap block) = None
mount_reported_by (mount.Twice root) = None
mount_reported_by (mount.Bitmap block says) = None
mount_reported_by (mount.SuperCount field said found) = None
mount_reported_by (mount.DeviceFault count) = Some count
mount_reported_by mount.NoMemory = None

-- the count that an answer reports, if it does
abbrev pub mount_reported : {A : Type 0} → Result A MountFault → Option ℕ
mount_reported (Ok x) = None
mount_reported (Err f) = mount_reported_by f

-- the fault of a scan as one of an opening
abbrev pub of_scan : ReplayFault → OpenFault
of_scan (scan.Info f) = opening.Replay f
of_scan scan.NoMemory = opening.NoMemory
of_scan (scan.DeviceFault count) = opening.DeviceFault count

-- the answer of a scan as one of an opening
abbrev pub scanned : Result Replay ReplayFault → Result Replay OpenFault
scanned (Ok r) = Ok r
scanned (Err f) = Err (of_scan f)
