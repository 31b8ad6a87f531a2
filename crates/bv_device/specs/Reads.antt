-- Runs that only read.
use Rattle.std.specs.Prelude.{◌≡◌, ◌≤◌, ℕ, Option, Some, None, IfSome, IsTrue}
use Rattle.spec_disk.specs.Disk.{Blocks, reads_right}
use Rattle.spec_faults.specs.Faults.{Rose}
use Rattle.bv_device.specs.Told.{Disk, now_of}
use Rattle.bv_device.specs.Seen.{Seen}

-- no block's last write failed with no Ok sync after it: each read gives what Now has
abbrev pub ReadsRight : Disk → Type 0
ReadsRight d = (b : ℕ) → IsTrue (reads_right d.trace b)

-- where the device tells, and reads give what Now has: this has P
abbrev pub Sees : Seen → (Blocks → Type 0) → Type 0
Sees s P = IfSome s.told (λ d. ReadsRight d → P (now_of d))

-- the count of faults rose exactly where a fault is reported, and then it is the number reported
abbrev pub CountsReported : Option ℕ → ℕ → ℕ → Type 0
CountsReported None before now = now ≡ before
CountsReported (Some fault) before now = Rose before now × (before ≤ now) × (fault ≡ now)

-- A run that made no write and no sync: what is told, the blocks and the calls stay.
pub record OnlyReads (reported : Option ℕ) (old new : Seen) : Type 0 where
  pub told : new.told ≡ old.told
  pub blocks : new.block_count ≡ old.block_count
  pub calls : new.calls_made ≡ old.calls_made
  pub faults : CountsReported reported old.fault_count new.fault_count

-- A run that made no write and no sync, and whose answer speaks of what reads give.
pub record Reads (reported : Option ℕ) (old new : Seen) (P : Blocks → Type 0) : Type 0 where
  pub only : OnlyReads reported old new
  pub now : Sees old P
