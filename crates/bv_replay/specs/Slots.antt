-- Blocks of the journal that are read, and what reading them may answer (this project's profile).
use Rattle.std.specs.Prelude.{◌≡◌, ◌+◌, ◌%◌, ℕ, List, [], map, slice_index_or, IsSomeAnd}
use Rattle.std.specs.List.{range_with_len}
use Rattle.spec_disk.specs.Disk.{Blocks}
use Rattle.spec_record.specs.declared.geometry.Geometry.{Geometry}
use Rattle.spec_record.specs.Geometry.{ring_slots, ring_in}
use Rattle.bv_device.specs.Told.{now_of}
use Rattle.bv_device.specs.Seen.{Seen}
use Rattle.bv_device.specs.Reads.{ReadsRight}
use Rattle.bv_replay.specs.declared.replay_fault.ReplayFault.{ReplayFault}
use Rattle.bv_replay.specs.declared.replay_fault.ReplayFault.TheVariants.{Info, NoMemory, DeviceFault}

-- the device tells that reads give this image: no block's last write failed
abbrev pub Tells : Seen → Blocks → Type 0
Tells s image = IsSomeAnd s.told (λ d. (now_of d ≡ image) × ReadsRight d)

-- a fault of the device or want of memory, and nothing that the info block says
abbrev pub IsOutside : ReplayFault → Type 0
IsOutside (Info fault) = ⊥
IsOutside NoMemory = Unit {0}
IsOutside (DeviceFault fault) = Unit {0}

-- the block in the slot that is so many slots past the first of the ring, around it
abbrev pub slot_of : Geometry → Blocks → ℕ → List ℕ
slot_of g image place = slice_index_or (ring_in g image) (place % ring_slots g) []

-- n blocks of the ring, from a slot on
abbrev pub slots_from : Geometry → Blocks → ℕ → ℕ → Blocks
slots_from g image slot n = map (λ k. slot_of g image (slot + k)) (range_with_len 0 n)
