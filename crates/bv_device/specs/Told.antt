-- What a device tells of itself, where it tells at all: `None` of this is a device that tells
-- nothing.
use Rattle.std.specs.Prelude.{List, [], ◌∷◌, ◌++◌, Option, Some, None}
use Rattle.spec_disk.specs.declared.event.Event.{Event}
use Rattle.spec_disk.specs.Disk.{Blocks, now_after}
use Rattle.spec_disk.specs.Images.{IsImage}

-- the blocks at the opening, and each write and sync since, in order
pub record Disk : Type 0 where
  pub base : Blocks
  pub trace : List Event

-- Now: what reads give
abbrev pub now_of : Disk → Blocks
now_of d = now_after d.base d.trace

-- a stop of the machine may leave j
abbrev pub MayLeave : Disk → Blocks → Type 0
MayLeave d j = IsImage d.base d.trace j

-- the disk with these events more
abbrev pub disk_with : Disk → List Event → Disk
disk_with d events = record { base = d.base; trace = d.trace ++ events }

-- what is told after one event more
abbrev pub with_event : Option Disk → Event → Option Disk
with_event None e = None
with_event (Some d) e = Some (disk_with d (e ∷ []))
