-- The plan of `format`: its writes and syncs, in their order.
--
-- Each phase ends with a sync, so nothing else is written before the old superblock is gone for
-- good, and no superblock before all that it speaks of is on the device.
use Rattle.std.specs.Prelude.{List, ◌++◌}
use Rattle.spec_disk.specs.declared.event.Event.{Event}
use Rattle.spec_record.specs.declared.geometry.Geometry.{Geometry}
use Rattle.spec_record.specs.Superblock.{super_bytes}
use Rattle.spec_image.specs.Empty.{zero_block, empty_behind, empty_super}
use Rattle.bv_device.specs.Plan.{a_write, a_sync, writes}

-- zeros over block 0
abbrev pub clear_plan : List Event
clear_plan = a_write 0 zero_block ++ a_sync

-- bitmap, node map, info block and slots, from block 1 on
abbrev pub behind_plan : Geometry → List Event
behind_plan g = writes 1 (empty_behind g) ++ a_sync

-- the superblock
abbrev pub super_plan : Geometry → List Event
super_plan g = a_write 0 (super_bytes (empty_super g)) ++ a_sync

-- all of it
abbrev pub format_plan : Geometry → List Event
format_plan g = clear_plan ++ (behind_plan g ++ super_plan g)
