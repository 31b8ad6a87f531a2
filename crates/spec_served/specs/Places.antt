-- Where the blocks of a blob are on a device that tells (this project's profile).
--
-- `base` is the disk when the mount began, `told` are the device's events since, and `before` are
-- the events of the history up to then.
use Rattle.std.specs.Prelude.{ℕ, ◌&&◌, Bool, true, false, List, [], ◌∷◌, map, filter, Option, Some, None, if◌then◌else◌}
use Rattle.spec_tree.specs.declared.Digest.{Digest}
use Rattle.spec_tree.specs.Order.{same_digest}
use Rattle.spec_disk.specs.declared.event.Event.{Event}
use Rattle.spec_disk.specs.declared.event.Event.TheVariants as device
use Rattle.spec_disk.specs.Disk.{Blocks}
use Rattle.spec_record.specs.Geometry.{block_at}
use Rattle.spec_image.specs.Chain.{BlobRecord}
use Rattle.spec_image.specs.Metadata.{Metadata}
use Rattle.spec_image.specs.Stored.{blocks_of}
use Rattle.spec_image.specs.Volume.{metadata_of, blob_in}
use Rattle.spec_core.specs.declared.act.Act.{Act}
use Rattle.spec_core.specs.declared.act.Act.TheVariants as acts
use Rattle.spec_core.specs.declared.reply.Reply.{Reply}
use Rattle.spec_core.specs.declared.reply.Reply.TheVariants as replies
use Rattle.spec_core.specs.declared.event.CoreEvent.{CoreEvent}
use Rattle.spec_core.specs.declared.who.Who.{Who}
use Rattle.spec_core.specs.History.{History}
use Rattle.spec_crash.specs.Timing.{event_at}
use Rattle.spec_session.specs.Told.{same_who}

-- who published this root last, after an event, where before it was this one
abbrev pub publisher_after : Digest → Option Who → Who → Act → Reply → Option Who
publisher_after root last who (acts.Settle r) replies.Published =
    if same_digest root r then Some who else last
publisher_after root last who act reply = last

-- who published this root last, among these events, where before them it was this one
abbrev pub publisher : Digest → Option Who → List CoreEvent → Option Who
publisher root last [] = last
publisher root last (e ∷ es) = publisher root (publisher_after root last e.who e.act e.reply) es

-- whether a block was put
abbrev pub was_written : Act → Reply → Bool
was_written (acts.Put index) replies.Written = true
was_written act reply = false

-- the block that a write of the device went to; no other event is asked for
abbrev pub written_at : Option Event → ℕ
written_at (Some (device.Write at bytes ok)) = at
written_at _ = 0

-- the device's blocks that the puts of this session and line wrote, in order
abbrev pub put_blocks : List Event → List CoreEvent → Who → List ℕ
put_blocks told before who =
    map (λ e. written_at (event_at told e.calls))
    (filter (λ e. same_who e.who who && was_written e.act e.reply) before)

-- the device's blocks in the extents of a blob
abbrev pub record_blocks : Metadata → Option BlobRecord → List ℕ
record_blocks m None = []
record_blocks m (Some b) = map (block_at m.super.geometry) (blocks_of b.extents)

-- the version of a blob that is there
abbrev pub record_version : Option BlobRecord → ℕ
record_version None = 0
record_version (Some b) = b.version

-- the device's blocks of a blob of an image with this metadata
abbrev pub image_blocks : Digest → Option Metadata → List ℕ
image_blocks root None = []
image_blocks root (Some m) = record_blocks m (blob_in m root)

-- its version
abbrev pub image_version : Digest → Option Metadata → ℕ
image_version root None = 0
image_version root (Some m) = record_version (blob_in m root)

-- a blob's blocks, by who published it last: those that its puts wrote, else those of its extents in
-- the opening image
abbrev pub blocks_by : Blocks → List Event → List CoreEvent → Digest → Option Who → List ℕ
blocks_by base told before root None = image_blocks root (metadata_of base)
blocks_by base told before root (Some who) = put_blocks told before who

-- its version: the volume's, else that of the opening image
abbrev pub version_by : Blocks → History → Digest → Option Who → ℕ
version_by base h root None = image_version root (metadata_of base)
version_by base h root (Some who) = h.version
