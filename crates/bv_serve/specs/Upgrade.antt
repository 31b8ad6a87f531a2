-- What the command `upgrade` does: it recovers a volume and makes it one of version 2, and prints how
-- many entries its journal held.
use Rattle.std.specs.Prelude.{ℕ, codes, Result}
use Rattle.bv_device.specs.Seen.{Seen}
use Rattle.bv_mount.specs.Upgrades.{Upgrades}
use Rattle.spec_inspect.specs.declared.mount_fault.MountFault.{MountFault}
use Rattle.bv_serve.specs.declared.status.Status.{Status}
use Rattle.bv_serve.specs.Replayed.{ReportsReplayed}
use Rattle.bv_serve.specs.Runs.{Change, LeavesAlone}

-- An upgrade: what becomes of the device is said where it is upgraded; the source is left alone.
pub record RunsUpgrade (ended : Status) (old new : Seen) (input out : Change) : Type 0 where
  pub answer : Result ℕ MountFault
  pub device : Upgrades answer old new
  pub reports : ReportsReplayed (codes "upgraded") answer ended out
  pub alone : LeavesAlone input
