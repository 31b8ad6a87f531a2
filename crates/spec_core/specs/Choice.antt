-- Which replies may come: for each kind of event the rows of its table, of which the first whose
-- condition holds decides (this project's profile).
--
-- | event      | replies, in the order of their conditions                           |
-- |------------|---------------------------------------------------------------------|
-- | begin      | stopped, exists, leaving, in-flight, no-space, granted              |
-- | admit      | stopped, no-nodes or admitted                                       |
-- | put        | stopped, device-fault, written                                      |
-- | settle     | stopped, number-end, device-fault, published                        |
-- | retire     | retired                                                             |
-- | open       | not-found, slot-taken, opened                                       |
-- | fetch      | bad-slot, read-fault, fetched                                       |
-- | read, scan | bad-slot, reading                                                   |
-- | close      | bad-slot, closed                                                    |
-- | unlink     | stopped, not-found, unlinked                                        |
-- | sync       | stopped, number-end, device-fault, synced                           |
-- | list       | the number of roots that are present                                |
-- | unmount    | as sync, with every slot emptied and all leaving roots in the queue |
use Rattle.std.specs.Prelude.{ℕ, Bool, true, false, cond, not, ◌^◌, ◌&&◌, ◌==◌, List, [], ◌∷◌, ◌++◌, Option, Some, None, is_some, nat_lt}
use Rattle.spec_tree.specs.Tree.{need_of}
use Rattle.spec_tree.specs.declared.Digest.{Digest}
use Rattle.spec_core.specs.Room.{room_in, worst_nodes, least_free}
use Rattle.spec_core.specs.State.{State, find, held, holders, is_unlinked, present, count_present}
use Rattle.spec_core.specs.declared.act.Act.{Act}
use Rattle.spec_core.specs.declared.act.Act.TheVariants.{Begin, Admit, Put, Settle, Retire, Open, Fetch, Read, Scan, Close, Unlink, Sync, List as ListAll, Unmount}
use Rattle.spec_tree.specs.declared.blob.Blob.{Blob}
use Rattle.spec_core.specs.declared.choice.Choice.{Choice}
use Rattle.spec_core.specs.declared.choice.Choice.TheVariants.{Only, Writes, Reads, Nodes, Never}
use Rattle.spec_core.specs.declared.place.Place.{Place}
use Rattle.spec_core.specs.declared.reply.Reply.{Reply}
use Rattle.spec_core.specs.declared.reply.Reply.TheVariants.{Written, Published, Retired, Opened, Fetched, Reading, Closed, Unlinked, Synced, Listed, Unmounted, Stopped, Exists, Leaving, InFlight, NoSpace, Granted, NumberEnd, NotFound, SlotTaken, BadSlot}
use Rattle.spec_core.specs.declared.setting.Setting.{Setting}
use Rattle.spec_core.specs.declared.who.Who.{Who}

-- the session's slot
abbrev pub place_of : Who → ℕ → Place
place_of who slot = record { session = who.session; slot = slot }

-- row stopped: a write or sync failed earlier in this mount
abbrev pub unless_stopped : Option ℕ → Choice → Choice
unless_stopped (Some f) rest = Only (Stopped f)
unless_stopped None rest = rest

-- row bad-slot: the slot holds nothing
abbrev pub unless_empty : Option Digest → Choice → Choice
unless_empty None rest = Only BadSlot
unless_empty (Some r) rest = rest

-- an admit or a settle comes only while the add is under way
abbrev pub if_added : Option ℕ → (ℕ → Choice) → Choice
if_added None rest = Never
if_added (Some n) rest = rest n

-- rows exists, leaving, in-flight, no-space and granted of begin
abbrev pub begin_choice : Setting → State → Digest → ℕ → Choice
begin_choice g s r n =
    cond (is_some (present s r)) (Only Exists)
    (cond (is_unlinked s r) (Only (Leaving (holders s.slots r)))
    (cond (is_some (find s.adds r)) (Only InFlight)
    (cond (nat_lt (room_in g s) (need_of g.version n))
    (Only (NoSpace (need_of g.version n) (room_in g s)))
    (Only Granted))))

-- rows no-nodes and admitted of admit
abbrev pub admit_choice : Setting → State → Digest → ℕ → Choice
admit_choice g s r n = Nodes (worst_nodes g.version n) (least_free g s r)

-- the entry that is to be written has no number
abbrev pub at_number_end : State → Bool
at_number_end s = s.next == 2 ^ 62

-- rows number-end, device-fault and published of settle
abbrev pub settle_choice : State → Choice
settle_choice s = cond (at_number_end s) (Only NumberEnd) (Writes Published)

-- rows not-found, slot-taken and opened of open
abbrev pub open_choice : Option Blob → Option Digest → Choice
open_choice None slot = Only NotFound
open_choice (Some blob) (Some r) = Only SlotTaken
open_choice (Some blob) None = Only (Opened blob.size)

-- rows not-found and unlinked of unlink
abbrev pub unlink_choice : State → Digest → Choice
unlink_choice s r = cond (is_some (present s r)) (Only Unlinked) (Only NotFound)

-- whether a list has no member
abbrev pub is_empty : {X : Type 0} → List X → Bool
is_empty [] = true
is_empty (x ∷ xs) = false

-- rows number-end, device-fault and synced (or unmounted) of sync, with this queue
abbrev pub sync_choice : State → List Digest → Reply → Choice
sync_choice s queue done =
    cond (not (is_empty queue) && at_number_end s) (Only NumberEnd) (Writes done)

-- the replies that may come
abbrev pub choice : Setting → State → Who → Act → Choice
choice g s who (Begin r n) = unless_stopped s.stopped (begin_choice g s r n)
choice g s who (Admit r) =
    if_added (find s.adds r) (λ n. unless_stopped s.stopped (admit_choice g s r n))
choice g s who (Put index) = unless_stopped s.stopped (Writes Written)
choice g s who (Settle r) =
    if_added (find s.adds r) (λ n. unless_stopped s.stopped (settle_choice s))
choice g s who (Retire r) = Only Retired
choice g s who (Open slot r) = open_choice (present s r) (held s.slots (place_of who slot))
choice g s who (Fetch slot window) = unless_empty (held s.slots (place_of who slot)) (Reads Fetched)
choice g s who (Read slot off len) = unless_empty (held s.slots (place_of who slot)) (Only Reading)
choice g s who (Scan slot) = unless_empty (held s.slots (place_of who slot)) (Only Reading)
choice g s who (Close slot) = unless_empty (held s.slots (place_of who slot)) (Only Closed)
choice g s who (Unlink r) = unless_stopped s.stopped (unlink_choice s r)
choice g s who Sync = unless_stopped s.stopped (sync_choice s s.queue Synced)
choice g s who ListAll = Only (Listed (count_present s))
choice g s who Unmount =
    cond (is_empty s.adds)
    (unless_stopped s.stopped (sync_choice s (s.queue ++ s.leaving) Unmounted))
    Never
