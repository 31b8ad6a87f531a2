-- What the blobs of the map hold, by the history.
use Rattle.std.specs.Prelude.{◌≡◌, ◌&&◌, ℕ, List, [], map, filter, Option, Some, None, IfSome}
use Rattle.spec_disk.specs.Disk.{block}
use Rattle.spec_disk.specs.declared.event.Event.{Event}
use Rattle.spec_disk.specs.declared.event.Event.TheVariants as device
use Rattle.spec_record.specs.Geometry.{block_at}
use Rattle.spec_record.specs.declared.geometry.Geometry.{Geometry}
use Rattle.spec_tree.specs.declared.Digest.{Digest}
use Rattle.spec_core.specs.History.{History}
use Rattle.spec_core.specs.State.{find}
use Rattle.spec_core.specs.declared.event.CoreEvent.{CoreEvent}
use Rattle.spec_core.specs.declared.who.Who.{Who}
use Rattle.spec_crash.specs.Timing.{event_at}
use Rattle.spec_session.specs.Told.{same_who}
use Rattle.spec_served.specs.Adds.{AreByLine}
use Rattle.spec_served.specs.Places.{publisher, was_written}
use Rattle.bv_device.specs.Told.{Disk, now_of}

-- the bytes that an event of the device wrote
abbrev pub bytes_of : Option Event → List ℕ
bytes_of (Some (device.Write at bytes ok)) = bytes
bytes_of _ = []

-- what the puts of this session and line wrote, in order
abbrev pub put_contents : List Event → List CoreEvent → Who → List (List ℕ)
put_contents told before who =
    map (λ e. bytes_of (event_at told e.calls))
    (filter (λ e. same_who e.who who && was_written e.act e.reply) before)

-- what the disk has at these data blocks
abbrev pub contents_at : Geometry → Disk → List ℕ → List (List ℕ)
contents_at g d places = map (λ b. block (now_of d) (block_at g b)) places

-- these data blocks hold what the puts of the line wrote that published last, and else what they held
-- when the mount began
abbrev pub HoldsIts : Geometry → Disk → History → List ℕ → Option Who → Type 0
HoldsIts g d h places None =
    contents_at g d places ≡ map (λ b. block d.base (block_at g b)) places
HoldsIts g d h places (Some who) = contents_at g d places ≡ put_contents d.trace h.events who

-- each blob holds what the history says, where lines made the events
abbrev pub KeepsContents : History → Geometry → Option Disk → List (Digest × List ℕ) → Type 0
KeepsContents h g told placed =
    AreByLine [] h.events → IfSome told (λ d. (r : Digest) (places : List ℕ)
    → find placed r ≡ Some places → HoldsIts g d h places (publisher r None h.events))
