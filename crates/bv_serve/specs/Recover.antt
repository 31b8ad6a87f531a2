-- What the command `recover` does: it puts in place what the journal of a volume holds, and prints
-- how many entries that were.
use Rattle.std.specs.Prelude.{ℕ, codes, Result}
use Rattle.bv_device.specs.Seen.{Seen}
use Rattle.bv_mount.specs.Recovers.{Recovers}
use Rattle.spec_inspect.specs.declared.mount_fault.MountFault.{MountFault}
use Rattle.bv_serve.specs.declared.status.Status.{Status}
use Rattle.bv_serve.specs.Replayed.{ReportsReplayed}
use Rattle.bv_serve.specs.Runs.{Change, LeavesAlone}

-- A recovery: what becomes of the device is said where it is recovered; the source is left alone.
pub record RunsRecover (ended : Status) (old new : Seen) (input out : Change) : Type 0 where
  pub answer : Result ℕ MountFault
  pub device : Recovers answer old new
  pub reports : ReportsReplayed (codes "recovered") answer ended out
  pub alone : LeavesAlone input
