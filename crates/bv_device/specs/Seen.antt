-- What contracts see of any device, and what a run of writes and syncs does to it.
use Rattle.std.specs.Prelude.{◌≡◌, ℕ, List, length, Option, Result}
use Rattle.spec_disk.specs.declared.event.Event.{Event}
use Rattle.spec_faults.specs.Faults.{CountsFaults}
use Rattle.bv_device.specs.Told.{Disk}
use Rattle.bv_device.specs.Plan.{Follows, CountsCalls}

-- what a contract sees of a device
pub record Seen : Type 0 where
  -- its blocks at the opening and its writes and syncs since, where it tells them
  pub told : Option Disk
  -- how many blocks it has
  pub block_count : ℕ
  -- how many writes and syncs it has made, of those that left an event
  pub calls_made : ℕ
  -- how many of its calls have failed, which never falls
  pub fault_count : ℕ

-- A run of writes and syncs did all of this plan at Ok, and a beginning of it at an error.
pub record Performs {T E : Type 0} (result : Result T E) (events : List Event) (old new : Seen)
    : Type 0 where
  pub plan : Follows result events old.told new.told
  pub blocks : new.block_count ≡ old.block_count
  pub calls : CountsCalls (length events) old.calls_made new.calls_made result
  pub faults : CountsFaults old.fault_count new.fault_count result
