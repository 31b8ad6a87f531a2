-- What each stop of a run leaves: stops after any number of its events, also before the first and
-- after the last.
use Rattle.std.specs.Prelude.{◌≡◌, ◌≤◌, ℕ, List, length, take, Option, Some}
use Rattle.spec_disk.specs.declared.event.Event.{Event}
use Rattle.spec_disk.specs.Disk.{Blocks}
use Rattle.bv_device.specs.Told.{Disk, MayLeave, disk_with}

-- whatever a stop leaves now has P
abbrev pub EachStop : Disk → (Blocks → Type 0) → Type 0
EachStop d P = (j : Blocks) → MayLeave d j → P j

-- whatever a stop leaves after k of these events has P k
abbrev pub Crash : Disk → List Event → (ℕ → Blocks → Type 0) → Type 0
Crash d events P = (k : ℕ) → k ≤ length events → EachStop (disk_with d (take k events)) (P k)

-- the device tells that since d some events came, and each stop of them left P
pub record Ran (d : Disk) (told : Option Disk) (P : ℕ → Blocks → Type 0) : Type 0 where
  pub events : List Event
  pub is : told ≡ Some (disk_with d events)
  pub crash : Crash d events P

-- whatever a stop of a run leaves after k events, a stop of the plan leaves after at most k
abbrev pub LeftByPlan : Disk → List Event → ℕ → Blocks → Type 0
LeftByPlan d plan k j =
    (m : ℕ) × (m ≤ k) × (m ≤ length plan) × MayLeave (disk_with d (take m plan)) j
