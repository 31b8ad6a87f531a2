-- What a function does to a device: a plan, which is the list of the events that it leaves where
-- all of them are Ok.
--
-- Plans are joined by `++`, grouped to the right as the calls come:
-- `a_write at bytes ++ (a_sync ++ ..)`.
use Rattle.std.specs.Prelude.{◌≡◌, ◌≤◌, ◌⊎◌, ℕ, ◌+◌, List, [], ◌∷◌, true, false, Option, Result, Ok, Err, OnOk, OnErr}
use Rattle.spec_disk.specs.declared.event.Event.{Event}
use Rattle.spec_disk.specs.declared.event.Event.TheVariants.{Write, Sync}
use Rattle.spec_disk.specs.Disk.{Blocks}
use Rattle.bv_device.specs.Told.{Disk, with_event}

-- one write
abbrev pub a_write : ℕ → List ℕ → List Event
a_write at bytes = Write at bytes true ∷ []

-- one sync
abbrev pub a_sync : List Event
a_sync = Sync true ∷ []

-- a write of each of these blocks, from block `at` on, one place after another
abbrev pub writes : ℕ → Blocks → List Event
writes at [] = []
writes at (bytes ∷ rest) = Write at bytes true ∷ writes (at + 1) rest

-- every event of a plan is Ok
abbrev pub IsPlan : List Event → Type 0
IsPlan [] = Unit {0}
IsPlan (Write at bytes true ∷ plan) = IsPlan plan
IsPlan (Write at bytes false ∷ plan) = ⊥
IsPlan (Sync true ∷ plan) = IsPlan plan
IsPlan (Sync false ∷ plan) = ⊥

-- the event of this call where it fails
abbrev pub failed_event : Event → Event
failed_event (Write at bytes ok) = Write at bytes false
failed_event (Sync ok) = Sync false

-- what is told after these events more
abbrev pub with_events : Option Disk → List Event → Option Disk
with_events told [] = told
with_events told (e ∷ plan) = with_events (with_event told e) plan

-- the plan was cut short: some call of it failed, and left its failed event or nothing
abbrev pub CutShort : List Event → Option Disk → Option Disk → Type 0
CutShort [] old new = ⊥
CutShort (e ∷ plan) old new =
    (new ≡ old)
    ⊎ ((new ≡ with_event old (failed_event e)) ⊎ CutShort plan (with_event old e) new)

-- Ok did all of the plan, and an error cut it short.
abbrev pub Follows : {T E : Type 0} → Result T E → List Event → Option Disk → Option Disk → Type 0
Follows (Ok v) plan old new = new ≡ with_events old plan
Follows (Err e) plan old new = CutShort plan old new

-- The count of writes and syncs has grown by n at Ok, and by at most n at an error.
pub record CountsCalls {T E : Type 0} (n before now : ℕ) (result : Result T E) : Type 0 where
  pub later : before ≤ now
  pub ok : OnOk result (now ≡ before + n)
  pub err : OnErr result (now ≤ before + n)
