-- What the rules mean together: each statement is the contract of a function of `laws`.
use Rattle.std.specs.Prelude.{◌≡◌, ℕ, true, false, ◌-◌, ◌<◌, ◌≤◌, cond, ◌++◌, length, Some, None, is_some}
use Rattle.std.specs.List.{count_by}
use Rattle.spec_tree.specs.declared.Digest.{Digest}
use Rattle.spec_tree.specs.Order.{same_digest}
use Rattle.spec_core.specs.Choice.{choice, is_empty, place_of}
use Rattle.spec_core.specs.History.{History, setting_of, opening_map, last_state, room, worst_sum, Legal}
use Rattle.spec_core.specs.Log.{changed, queued}
use Rattle.spec_core.specs.Room.{worst_sum_in}
use Rattle.spec_core.specs.State.{State, find, held, among, is_held, is_unlinked}
use Rattle.spec_core.specs.Step.{Chosen, Fits, Step, after}
use Rattle.spec_core.specs.Synced.{fault_of}
use Rattle.spec_core.specs.declared.act.Act.{Act}
use Rattle.spec_core.specs.declared.act.Act.TheVariants.{Admit, Settle, Close, Unlink, Unmount}
use Rattle.spec_core.specs.declared.event.CoreEvent.{CoreEvent}
use Rattle.spec_core.specs.declared.place.Place.{Place}
use Rattle.spec_core.specs.declared.reply.Reply.{Reply}
use Rattle.spec_core.specs.declared.reply.Reply.TheVariants.{NoNodes, Unlinked}
use Rattle.spec_core.specs.declared.setting.Setting.{Setting}
use Rattle.spec_core.specs.declared.who.Who.{Who}

-- ---- one step

-- with the reply given, there is one new state
abbrev pub OneNewState : Type 0
OneNewState =
    (g : Setting) (old new other : State) (e : CoreEvent)
    → Step g old e new → Step g old e other → new ≡ other

-- the state leaves the reply open: to an admit, while no write or sync has failed
abbrev pub LeavesOpen : State → Act → Type 0
LeavesOpen s (Admit r) = s.stopped ≡ None
LeavesOpen s _ = ⊥

-- given whether the device failed, and with which number, there is one reply, but where the state
-- leaves it open
abbrev pub OneReply : Type 0
OneReply =
    (g : Setting) (s : State) (who : Who) (act : Act) (q r : Reply)
    → Chosen (choice g s who act) q → Chosen (choice g s who act) r
    → fault_of q ≡ fault_of r → ¬ LeavesOpen s act → q ≡ r

-- the condition of the table's rows on the event itself
abbrev pub MayCome : State → Act → Type 0
MayCome s (Admit r) = is_some (find s.adds r) ≡ true
MayCome s (Settle r) = is_some (find s.adds r) ≡ true
MayCome s Unmount = is_empty s.adds ≡ true
MayCome s _ = Unit {0}

-- an event that may come has a reply with which it is a Step
abbrev pub SomeReply : Type 0
SomeReply =
    (g : Setting) (s : State) (who : Who) (act : Act) (calls : ℕ) → MayCome s act
    → (reply : Reply) × (new : State)
    × Step g s (record { who = who; act = act; reply = reply; calls = calls }) new

-- an admit replies no-nodes only where the most nodes of the blobs of the map and of all adds are
-- more than there are
abbrev pub NoNodesIsPastWorst : Type 0
NoNodesIsPastWorst =
    (g : Setting) (s : State) (who : Who) (r : Digest) (need free : ℕ)
    → Chosen (choice g s who (Admit r)) (NoNodes need free) → g.nodes < worst_sum_in g s

-- ---- histories

-- the room is at least 0 and at most all blocks but block 0
abbrev pub RoomIsBounded : Type 0
RoomIsBounded = (h : History) → (0 ≤ room h) × (room h ≤ h.blocks - 1)

-- an admit after a history replies no-nodes only where the worst sum is more than the nodes
abbrev pub WorstSumIsPassed : Type 0
WorstSumIsPassed =
    (h : History) (next : ℕ) (who : Who) (r : Digest) (need free : ℕ)
    → Chosen (choice (setting_of h) (last_state h next) who (Admit r)) (NoNodes need free)
    → h.nodes < worst_sum h

-- the number of the first entry has a part only in the number of the next one
abbrev pub NumbersAreApart : Type 0
NumbersAreApart =
    (h : History) (next : ℕ)
    → last_state h next ≡ record (last_state h 0) { next = (last_state h next).next }

-- while no write or sync failed, the map is the opening changed by the log
abbrev pub LogMakesMap : Type 0
LogMakesMap =
    (h : History) (next : ℕ) → (last_state h next).stopped ≡ None
    → (last_state h next).map ≡ changed (opening_map h) (last_state h next).log

-- a root that a slot holds is in the map, and isn't queued to be purged
abbrev pub HeldRootsStay : Type 0
HeldRootsStay =
    (h : History) (next : ℕ) (r : Digest) → Legal h next
    → is_held (last_state h next).slots r ≡ true
    → (is_some (find (last_state h next).map r) ≡ true)
    × (among (last_state h next).queue r ≡ false)

-- a root that an event has unlinked leaves or is queued
abbrev pub UnlinkedRootsLeave : Type 0
UnlinkedRootsLeave =
    (g : Setting) (old new : State) (who : Who) (r : Digest) (calls : ℕ)
    → Step g old (record { who = who; act = Unlink r; reply = Unlinked; calls = calls }) new
    → is_unlinked new r ≡ true

-- a root that leaves is held by some slot
abbrev pub LeavingRootsAreHeld : Type 0
LeavingRootsAreHeld =
    (h : History) (next : ℕ) (r : Digest) → Legal h next
    → among (last_state h next).leaving r ≡ true → is_held (last_state h next).slots r ≡ true

-- a root stands at most once among those that are queued or leave, and only while it is in the map
abbrev pub UnlinkedRootsStay : Type 0
UnlinkedRootsStay =
    (h : History) (next : ℕ) (r : Digest) → Legal h next
    → count_by (same_digest r) ((last_state h next).queue ++ (last_state h next).leaving)
    ≤ cond (is_some (find (last_state h next).map r)) 1 0

-- so a flush has a purge for each root of the queue
abbrev pub QueueIsPurged : Type 0
QueueIsPurged =
    (h : History) (next : ℕ) → Legal h next
    → length (queued (last_state h next)) ≡ length (last_state h next).queue

-- the event empties this place: it is unmount, or closes the place
abbrev pub Empties : Place → Who → Act → Type 0
Empties p who (Close slot) = place_of who slot ≡ p
Empties p who Unmount = Unit {0}
Empties p who _ = ⊥

-- what a slot holds stays there until an event empties it
abbrev pub SlotsStay : Type 0
SlotsStay =
    (g : Setting) (s : State) (e : CoreEvent) (p : Place) (r : Digest)
    → Fits g s e → held s.slots p ≡ Some r → ¬ Empties p e.who e.act
    → held (after g s e).slots p ≡ Some r
