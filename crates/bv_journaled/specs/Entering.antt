-- The plan of an entry's call, and what is left where it fails (this project's profile).
use Rattle.std.specs.Prelude.{◌≡◌, ℕ, List, [], ◌++◌, length, nat_le, Contains, if◌then◌else◌}
use Rattle.spec_disk.specs.declared.event.Event.{Event}
use Rattle.spec_disk.specs.Disk.{Blocks}
use Rattle.spec_record.specs.declared.geometry.Geometry.{Geometry}
use Rattle.bv_device.specs.Plan.{a_sync}
use Rattle.bv_journal.specs.Plans.{ring_writes, checkpoint_plan}
use Rattle.bv_ring.specs.Cursor.{Cursor, emptied, info_at_cursor}
use Rattle.bv_journaled.specs.Standing.{Standing, freed_by}

-- a checkpoint, where the ring has no room for so many blocks
abbrev pub room_plan : Geometry → Cursor → Blocks → ℕ → List Event
room_plan g c meta count =
    if nat_le count c.room then [] else checkpoint_plan g meta (info_at_cursor c)

-- where the ring stands then
abbrev pub with_room : Cursor → ℕ → Cursor
with_room c count = if nat_le count c.room then c else emptied c

-- a sync, so that data and entries last; room in the ring; and the blocks of an entry
abbrev pub entry_plan : Geometry → Cursor → Blocks → Blocks → List Event
entry_plan g c meta blocks =
    a_sync ++ (room_plan g c meta (length blocks) ++ ring_writes c.geometry c.slot blocks)

-- what a failure leaves: the metadata as it was, and no more blocks held than before
pub record StopsShort (old new : Standing) : Type 0 where
  pub opened : new.opened ≡ old.opened
  pub meta : new.meta ≡ old.meta
  pub gone : (b : ℕ) → Contains (freed_by new.gone) b → Contains (freed_by old.gone) b
