-- A device in memory, as contracts see it, and what a call makes of it.
use Rattle.std.specs.Prelude.{◌≡◌, ℕ, ◌-◌, ◌^◌, ◌<◌, ◌≤◌, List, [], ◌∷◌, ◌++◌, ◌⊎◌, length, map, Contains, Bool, true, false, if◌then◌else◌, Result, Ok, Err}
use Rattle.spec_disk.specs.Disk.{Blocks, now_after}
use Rattle.spec_disk.specs.declared.event.Event.{Event}
use Rattle.spec_faults.specs.Faults.{one_more}
use Rattle.bv_device.specs.declared.call_kind.CallKind.{CallKind}
use Rattle.bv_device.specs.declared.call_kind.CallKind.TheVariants as kind
use Rattle.bv_device.specs.declared.failed.Failed.{Failed}
use Rattle.bv_device.specs.declared.traced.Refusal.{Refusal}
use Rattle.bv_device.specs.declared.traced.Refusal.TheVariants.{Full, NoMemory}
use Rattle.bv_device.specs.Told.{Disk, disk_with}

-- what it tells; for each kind of call, the numbers of those that are to fail; how many calls
-- failed, and how many of them for want of memory. Numbers count from now on: 1 is the next call of
-- the kind, and 0 one that is past.
pub record HeldDevice : Type 0 where
  pub disk : Disk
  pub reads : List ℕ
  pub writes : List ℕ
  pub syncs : List ℕ
  pub faults : ℕ
  pub short : ℕ

-- a device that has these blocks at its opening
abbrev pub device_of : Blocks → HeldDevice
device_of blocks = record {
  disk = record { base = blocks; trace = [] };
  reads = [];
  writes = [];
  syncs = [];
  faults = 0;
  short = 0;
}

-- the next call of the kind is to fail
abbrev pub IsNamed : List ℕ → Type 0
IsNamed fails = Contains fails 1

-- the numbers after a call of the kind
abbrev pub one_call_later : List ℕ → List ℕ
one_call_later fails = map (λ n. n - 1) fails

-- the numbers with one call more that is to fail
abbrev pub with_failing : HeldDevice → CallKind → ℕ → HeldDevice
with_failing d kind.Read nth = record d { reads = d.reads ++ nth ∷ [] }
with_failing d kind.Write nth = record d { writes = d.writes ++ nth ∷ [] }
with_failing d kind.Sync nth = record d { syncs = d.syncs ++ nth ∷ [] }

-- the count of writes and syncs stands at its last value
abbrev pub IsFull : Disk → Type 0
IsFull d = 2 ^ 63 - 1 ≤ length d.trace

-- what the blocks were at the opening: those that were kept, or those of now where nothing was
-- written yet
abbrev pub base_of : Bool → Blocks → Blocks → Blocks
base_of is_kept opening now = if is_kept then opening else now

-- the blocks are what these events make of the base, and there are not too many events
pub record IsTraced (base now : Blocks) (trace : List Event) : Type 0 where
  pub is : now ≡ now_after base trace
  pub short : length trace < 2 ^ 63

-- the event was added; or it wasn't, exactly where the trace is full, or for want of memory
abbrev pub IsLogged : Result Unit Refusal → Event → Disk → Disk → Type 0
IsLogged (Ok v) e old new = (¬ IsFull old) × (new ≡ disk_with old (e ∷ []))
IsLogged (Err Full) e old new = IsFull old × (new ≡ old)
IsLogged (Err NoMemory) e old new = new ≡ old

-- with one event more
abbrev pub with_one_event : HeldDevice → Event → HeldDevice
with_one_event d e = record d { disk = disk_with d.disk (e ∷ []) }

-- with one failure more
abbrev pub with_fault : HeldDevice → HeldDevice
with_fault d = record d { faults = one_more d.faults }

-- with one failure more, for want of memory
abbrev pub with_shortage : HeldDevice → HeldDevice
with_shortage d = record d { faults = one_more d.faults; short = one_more d.short }

-- with one read counted
abbrev pub with_read : HeldDevice → HeldDevice
with_read d = record d { reads = one_call_later d.reads }

-- with one write counted
abbrev pub with_write : HeldDevice → HeldDevice
with_write d = record d { writes = one_call_later d.writes }

-- with one sync counted
abbrev pub with_sync : HeldDevice → HeldDevice
with_sync d = record d { syncs = one_call_later d.syncs }

-- what a write or a sync answers and counts, by whether its event was added and whether it was
-- named to fail
abbrev pub IsCounted : Result Unit Failed → Result Unit Refusal → Bool → ℕ → ℕ → ℕ → ℕ → Type 0
IsCounted (Ok v) (Ok w) named faults short faults_now short_now =
    (named ≡ false) × (faults_now ≡ faults) × (short_now ≡ short)
IsCounted (Ok v) (Err refusal) named faults short faults_now short_now = ⊥
IsCounted (Err e) (Ok w) named faults short faults_now short_now =
    (named ≡ true) × (faults_now ≡ one_more faults) × (short_now ≡ short)
IsCounted (Err e) (Err Full) named faults short faults_now short_now =
    (faults_now ≡ one_more faults) × (short_now ≡ short)
IsCounted (Err e) (Err NoMemory) named faults short faults_now short_now =
    (faults_now ≡ one_more faults) × (short_now ≡ one_more short)

-- What a read does, `d` being the device that has counted it: it fails exactly where it was named.
abbrev pub Reads : Result Unit Failed → List ℕ → HeldDevice → HeldDevice → Type 0
Reads (Ok v) fails d new = (¬ IsNamed fails) × (new ≡ d)
Reads (Err e) fails d new = IsNamed fails × (new ≡ with_fault d)

-- What a write or a sync does, `d` being the device that has counted it: it fails exactly where it
-- was named, where the trace is full, or where `short` rises, and a failed one leaves its failed
-- event in the first case alone.
abbrev pub Logs : Result Unit Failed → (Bool → Event) → List ℕ → HeldDevice → HeldDevice → Type 0
Logs (Ok v) event fails d new =
    (¬ IsNamed fails) × (¬ IsFull d.disk) × (new ≡ with_one_event d (event true))
Logs (Err e) event fails d new =
    (IsNamed fails × (new ≡ with_fault (with_one_event d (event false))))
    ⊎ ((IsFull d.disk × (new ≡ with_fault d)) ⊎ (new ≡ with_shortage d))
