-- What is printed of a history fixes it.
use Rattle.std.specs.Prelude.{◌≡◌, ℕ, ◌^◌, ◌<◌, List, length}
use Rattle.std.specs.List.{AllByRecursion}
use Rattle.hex.specs.Hex.{IsBytes}
use Rattle.spec_core.specs.History.{History}
use Rattle.spec_core.specs.declared.act.Act.{Act}
use Rattle.spec_core.specs.declared.act.Act.TheVariants as acts
use Rattle.spec_core.specs.declared.event.CoreEvent.{CoreEvent}
use Rattle.spec_core.specs.declared.reply.Reply.{Reply}
use Rattle.spec_core.specs.declared.reply.Reply.TheVariants as replies
use Rattle.spec_session.specs.Text.{history_text}
use Rattle.spec_printed.specs.Reading.{read_events}

-- a number of the machine
abbrev pub IsShort : ℕ → Type 0
IsShort n = n < 2 ^ 64

-- the numbers of an act are the machine's, and its root has bytes
abbrev pub IsAct : Act → Type 0
IsAct (acts.Begin root size) = IsBytes root.0 × IsShort size
IsAct (acts.Admit root) = IsBytes root.0
IsAct (acts.Put index) = IsShort index
IsAct (acts.Settle root) = IsBytes root.0
IsAct (acts.Retire root) = IsBytes root.0
IsAct (acts.Open slot root) = IsShort slot × IsBytes root.0
IsAct (acts.Fetch slot window) = IsShort slot × IsShort window
IsAct (acts.Read slot off len) = IsShort slot × IsShort off × IsShort len
IsAct (acts.Scan slot) = IsShort slot
IsAct (acts.Close slot) = IsShort slot
IsAct (acts.Unlink root) = IsBytes root.0
IsAct acts.Sync = Unit {0}
IsAct acts.List = Unit {0}
IsAct acts.Unmount = Unit {0}

-- the numbers of a reply are the machine's
abbrev pub IsReply : Reply → Type 0
IsReply (replies.Opened size) = IsShort size
IsReply (replies.Listed count) = IsShort count
IsReply (replies.Stopped fault) = IsShort fault
IsReply (replies.Leaving handles) = IsShort handles
IsReply (replies.NoSpace need room) = IsShort need × IsShort room
IsReply (replies.NoNodes need free) = IsShort need × IsShort free
IsReply (replies.DeviceFault fault) = IsShort fault
IsReply (replies.ReadFault fault) = IsShort fault
IsReply _ = Unit {0}

-- the values of an event are the machine's
pub record IsEvent (e : CoreEvent) : Type 0 where
  pub session : IsShort e.who.session
  pub line : IsShort e.who.line
  pub act : IsAct e.act
  pub reply : IsReply e.reply
  pub calls : IsShort e.calls

-- the values of a history's events are the machine's, as those that the program has
pub record OfTheMachine (events : List CoreEvent) : Type 0 where
  pub few : IsShort (length events)
  pub each : AllByRecursion IsEvent events

-- the events of a history are read from what is printed of it
abbrev pub PrintedIsRead : Type 0
PrintedIsRead =
    (events : List CoreEvent) → OfTheMachine events → read_events (history_text events) ≡ events

-- two histories began alike
pub record BeganAlike (h g : History) : Type 0 where
  pub opening : h.opening ≡ g.opening
  pub blocks : h.blocks ≡ g.blocks
  pub nodes : h.nodes ≡ g.nodes
  pub version : h.version ≡ g.version

-- two histories that began alike, and of which the same is printed, are one
abbrev pub PrintFixesHistory : Type 0
PrintFixesHistory =
    (h g : History) → BeganAlike h g → OfTheMachine h.events → OfTheMachine g.events
    → history_text h.events ≡ history_text g.events → h ≡ g
