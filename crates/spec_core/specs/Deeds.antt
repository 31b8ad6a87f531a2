-- What an event does to the slots and to the blobs, by its act and reply: its deed, and whether it
-- failed while it wrote an entry.
use Rattle.std.specs.Prelude.{ℕ, Bool, true, false}
use Rattle.spec_tree.specs.declared.Digest.{Digest}
use Rattle.spec_core.specs.Choice.{place_of}
use Rattle.spec_core.specs.declared.act.Act.{Act}
use Rattle.spec_core.specs.declared.act.Act.TheVariants.{Settle, Open, Close, Unlink, Sync, Unmount}
use Rattle.spec_core.specs.declared.deed.Deed.{Deed}
use Rattle.spec_core.specs.declared.deed.Deed.TheVariants.{Nothing, Opens, Closes, Unlinks, Publishes, Purges, Empties}
use Rattle.spec_core.specs.declared.place.Place.{Place}
use Rattle.spec_core.specs.declared.reply.Reply.{Reply}
use Rattle.spec_core.specs.declared.reply.Reply.TheVariants.{Published, Opened, Closed, Unlinked, Synced, Unmounted, DeviceFault}
use Rattle.spec_core.specs.declared.who.Who.{Who}

-- a settle that publishes purges the queue before it
abbrev pub settle_deed : Digest → Reply → Deed
settle_deed r Published = Publishes r
settle_deed r _ = Nothing

-- an open that opened fills its place
abbrev pub open_deed : Place → Digest → Reply → Deed
open_deed p r (Opened n) = Opens p r
open_deed p r _ = Nothing

-- a close that closed empties its place, and queues a leaving root that nothing holds then
abbrev pub close_deed : Place → Reply → Deed
close_deed p Closed = Closes p
close_deed p _ = Nothing

-- an unlink that unlinked makes the root leave, or queues it
abbrev pub unlink_deed : Digest → Reply → Deed
unlink_deed r Unlinked = Unlinks r
unlink_deed r _ = Nothing

-- a sync that synced purges the queue
abbrev pub sync_deed : Reply → Deed
sync_deed Synced = Purges
sync_deed _ = Nothing

-- an unmount empties every place and queues all leaving roots, whatever it replies, and purges the
-- queue where it succeeds
abbrev pub unmount_deed : Reply → Deed
unmount_deed Unmounted = Empties true
unmount_deed _ = Empties false

-- what an event does, by its act and reply: the other acts leave slots, queue and map alone
abbrev pub deed_of : Who → Act → Reply → Deed
deed_of who (Settle r) reply = settle_deed r reply
deed_of who (Open slot r) reply = open_deed (place_of who slot) r reply
deed_of who (Close slot) reply = close_deed (place_of who slot) reply
deed_of who (Unlink r) reply = unlink_deed r reply
deed_of who Sync reply = sync_deed reply
deed_of who Unmount reply = unmount_deed reply
deed_of who _ reply = Nothing

-- the reply tells that a write or sync failed
abbrev pub is_failure : Reply → Bool
is_failure (DeviceFault f) = true
is_failure _ = false

-- the device failed while an entry was written
abbrev pub fails : Act → Reply → Bool
fails (Settle r) reply = is_failure reply
fails Sync reply = is_failure reply
fails Unmount reply = is_failure reply
fails _ reply = false

-- how many blobs the entry of an event publishes
abbrev pub published_by : Act → ℕ
published_by (Settle r) = 1
published_by _ = 0
