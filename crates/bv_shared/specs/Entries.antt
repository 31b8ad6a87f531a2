-- A volume as sessions see it: what it stands on, and its events as entries.
use Rattle.std.specs.Prelude.{◌≡◌, ℕ, List, [], ◌∷◌, ◌++◌, Option, Some, None}
use Rattle.spec_disk.specs.declared.event.Event.{Event}
use Rattle.spec_tree.specs.declared.Digest.{Digest}
use Rattle.spec_core.specs.History.{setting_of, opening_map, first_state}
use Rattle.spec_core.specs.State.{State}
use Rattle.spec_core.specs.Step.{after}
use Rattle.spec_core.specs.declared.act.Act.{Act}
use Rattle.spec_core.specs.declared.act.Act.TheVariants as acts
use Rattle.spec_core.specs.declared.event.CoreEvent.{CoreEvent}
use Rattle.spec_core.specs.declared.reply.Reply.{Reply}
use Rattle.spec_core.specs.declared.setting.Setting.{Setting}
use Rattle.spec_core.specs.declared.who.Who.{Who}
use Rattle.spec_session.specs.Told.{present_blobs}
use Rattle.bv_device.specs.Told.{Disk}
use Rattle.bv_session.specs.declared.entry.Basis.{Basis}
use Rattle.bv_session.specs.declared.entry.Entry.{Entry}
use Rattle.bv_session.specs.declared.entry.Told.{Told}
use Rattle.bv_session.specs.Disk.{told_after}
use Rattle.bv_session.specs.Events.{Notes, NotesAs}
use Rattle.bv_volume.specs.Seen.{Seen}

-- a disk that is told, as sessions tell of it
abbrev pub told_of : Option Disk → Option Told
told_of None = None
told_of (Some d) = Some (record { base = d.base; trace = d.trace })

-- the device's events of the mount, where it tells
abbrev pub device_events : Option Disk → List Event
device_events None = []
device_events (Some d) = d.trace

-- what an event lists that begins in this state, where it is a listing
abbrev pub listed_by : State → Act → Option (List (Digest × ℕ))
listed_by s acts.List = Some (present_blobs s)
listed_by s act = None

-- an event as an entry, where it begins in this state, after these events
abbrev pub entry_of : Option Told → List Event → State → List CoreEvent → CoreEvent → Entry
entry_of told device s past e = record {
  event = e;
  told = told_after told device e.calls;
  listed = listed_by s e.act;
  before = past;
}

-- events as entries, where the first begins in this state, after these events
abbrev pub entries_from
    : Option Told → List Event → Setting → State → List CoreEvent → List CoreEvent → List Entry
entries_from told device g s past [] = []
entries_from told device g s past (e ∷ es) =
    entry_of told device s past e ∷ entries_from told device g (after g s e) (past ++ e ∷ []) es

-- what a volume stands on, where the device's count of faults was this at the opening
abbrev pub basis_of : Seen → ℕ → Basis
basis_of v faults = record {
  claims = v.space.claims;
  geometry = record v.store.geometry {
    blocks = v.history.blocks;
    nodes = v.history.nodes;
    version = v.history.version;
  };
  opening = v.history.opening;
  next = v.next;
  faults = faults;
  told = told_of v.store.began;
}

-- the entries of a volume
abbrev pub entries_in : Seen → List Entry
entries_in v = entries_from (told_of v.store.began) (device_events v.store.told)
    (setting_of v.history) (first_state (opening_map v.history) v.next) [] v.history.events

-- with a reply one entry is appended, whose event is this; without one, want of memory, none
abbrev pub Gains : List Entry → List Entry → Who → Act → Option Reply → Type 0
Gains old new who act None = new ≡ old
Gains old new who act (Some reply) = Notes old new who act reply

-- the same, and the entry has P
abbrev pub GainsAs
    : List Entry → List Entry → Who → Act → Option Reply → (Entry → Type 0) → Type 0
GainsAs old new who act None P = new ≡ old
GainsAs old new who act (Some reply) P = NotesAs old new who act reply P
