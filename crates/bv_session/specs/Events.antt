-- What the event calls of a value say: of its entries, and of the history that they are.
use Rattle.std.specs.Prelude.{◌≡◌, ℕ, Bool, List, [], ◌∷◌, ◌++◌, map, Option, Some, None}
use Rattle.spec_disk.specs.declared.event.Event.{Event}
use Rattle.spec_disk.specs.Disk.{now_after}
use Rattle.spec_disk.specs.Images.{IsSettled}
use Rattle.spec_core.specs.declared.act.Act.{Act}
use Rattle.spec_core.specs.declared.act.Act.TheVariants.{Read, Scan}
use Rattle.spec_core.specs.declared.reply.Reply.{Reply}
use Rattle.spec_core.specs.declared.reply.Reply.TheVariants as replies
use Rattle.spec_core.specs.declared.event.CoreEvent.{CoreEvent}
use Rattle.spec_core.specs.declared.who.Who.{Who}
use Rattle.spec_core.specs.History.{History}
use Rattle.spec_session.specs.Own.{OwnAdd, add_of, put_add}
use Rattle.spec_headline.specs.Run.{HasWholeBlobs}
use Rattle.spec_headline.specs.Headline.{Survives}
use Rattle.bv_turn.specs.Entries.{entries_of}
use Rattle.bv_session.specs.declared.entry.Entry.{Entry}
use Rattle.bv_session.specs.declared.entry.Basis.{Basis}
use Rattle.bv_session.specs.declared.entry.Told.{Told}
use Rattle.bv_session.specs.declared.serves.Answer.{Answer}
use Rattle.bv_session.specs.declared.serves.Answer.TheVariants.{Done, Refused}
use Rattle.bv_session.specs.declared.serves.Outcome.{Outcome}
use Rattle.bv_session.specs.declared.serves.Outcome.TheVariants as outcomes

-- the events of these entries
abbrev pub events_in : List Entry → List CoreEvent
events_in entries = map (λ e. e.event) entries

-- the events of session s among these entries
abbrev pub own_events : (Entry → ℕ) → ℕ → List Entry → List CoreEvent
own_events session s entries = events_in (entries_of session s entries)

-- the history with these events on what the basis says
abbrev pub history_by : Basis → List CoreEvent → History
history_by basis events = record {
  opening = basis.opening;
  blocks = basis.geometry.blocks;
  nodes = basis.geometry.nodes;
  version = basis.geometry.version;
  events = events;
}

-- the history that these entries are
abbrev pub history_of : Basis → List Entry → History
history_of basis entries = history_by basis (events_in entries)

-- exactly one entry is appended, whose event is this
abbrev pub Notes : List Entry → List Entry → Who → Act → Reply → Type 0
Notes old new who act reply =
    (e : Entry) × (new ≡ old ++ e ∷ [])
    × (e.event.who ≡ who) × (e.event.act ≡ act) × (e.event.reply ≡ reply)

-- the same, and the entry has P
abbrev pub NotesAs : List Entry → List Entry → Who → Act → Reply → (Entry → Type 0) → Type 0
NotesAs old new who act reply P =
    (e : Entry) × (new ≡ old ++ e ∷ [])
    × (e.event.who ≡ who) × (e.event.act ≡ act) × (e.event.reply ≡ reply) × P e

-- the replies that refuse what was asked
abbrev pub IsRefusal : Reply → Type 0
IsRefusal (replies.Stopped f) = Unit {0}
IsRefusal replies.Exists = Unit {0}
IsRefusal (replies.Leaving handles) = Unit {0}
IsRefusal replies.InFlight = Unit {0}
IsRefusal (replies.NoSpace need room) = Unit {0}
IsRefusal (replies.NoNodes need free) = Unit {0}
IsRefusal replies.NumberEnd = Unit {0}
IsRefusal (replies.DeviceFault f) = Unit {0}
IsRefusal (replies.ReadFault f) = Unit {0}
IsRefusal replies.NotFound = Unit {0}
IsRefusal replies.SlotTaken = Unit {0}
IsRefusal replies.BadSlot = Unit {0}
IsRefusal _ = ⊥

-- the reply of a fetch that failed on the device
abbrev pub IsReadFault : Reply → Type 0
IsReadFault (replies.ReadFault f) = Unit {0}
IsReadFault _ = ⊥

module _ {X : Type 0} where
  -- the reply of an event that gave this, which is by `done` where it went well
  abbrev pub reply_by : (X → Reply) → Answer X → Reply
  reply_by done (Done x) = done x
  reply_by done (Refused q) = q

  -- what went well has P
  abbrev pub IfDone : Answer X → (X → Type 0) → Type 0
  IfDone (Done x) P = P x
  IfDone (Refused q) P = Unit {0}

  -- the reply of a refusal has P
  abbrev pub IfRefused : Answer X → (Reply → Type 0) → Type 0
  IfRefused (Done x) P = Unit {0}
  IfRefused (Refused q) P = P q

-- the reply of an event that gives nothing, which is `done` where it went well
abbrev pub reply_or : Reply → Outcome → Reply
reply_or done outcomes.Done = done
reply_or done (outcomes.Refused q) = q

-- the reply of a refusal has P
abbrev pub IfRefuses : Outcome → (Reply → Type 0) → Type 0
IfRefuses outcomes.Done P = Unit {0}
IfRefuses (outcomes.Refused q) P = P q

-- the session has this add under way, which is admitted or not
pub record IsUnderWay (a : OwnAdd) (admitted : Bool) (own : List CoreEvent) : Type 0 where
  pub is : add_of own ≡ Some a
  pub state : a.admitted ≡ admitted

-- the add once a block was to be put
abbrev pub put_by : Outcome → OwnAdd → OwnAdd
put_by outcomes.Done a = put_add a
put_by (outcomes.Refused q) a = a

-- the act is a read or a scan of this slot
abbrev pub IsLook : Act → ℕ → Type 0
IsLook (Read s off len) slot = s ≡ slot
IsLook (Scan s) slot = s ≡ slot
IsLook act slot = ⊥

-- What a device that tells lets say of the volume: where it was settled at the opening and had whole
-- blobs, each stop of its events since mounts to a prefix.
abbrev pub SurvivesBy : Option Told → Basis → List Event → List Entry → Type 0
SurvivesBy None basis events entries = Unit {0}
SurvivesBy (Some d) basis events entries =
    IsSettled d.trace → HasWholeBlobs (now_after d.base d.trace)
    → Survives (now_after d.base d.trace) events (history_of basis entries) basis.next

-- the same, by the basis
abbrev pub SurvivesFrom : Basis → List Event → List Entry → Type 0
SurvivesFrom basis events entries = SurvivesBy basis.told basis events entries
