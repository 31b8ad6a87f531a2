-- The replies that come where nothing fails, and the runs that have only those (this project's
-- profile).
use Rattle.std.specs.Prelude.{◌≡◌, ℕ, List, ◌++◌, None, All}
use Rattle.spec_faults.specs.Faults.{Rose}
use Rattle.spec_core.specs.History.{last_state}
use Rattle.spec_core.specs.declared.act.Act.{Act}
use Rattle.spec_core.specs.declared.act.Act.TheVariants as acts
use Rattle.spec_core.specs.declared.event.CoreEvent.{CoreEvent}
use Rattle.spec_core.specs.declared.reply.Reply.{Reply}
use Rattle.spec_core.specs.declared.reply.Reply.TheVariants as replies
use Rattle.spec_seen.specs.Held.{up_to}
use Rattle.spec_headline.specs.Complete.{HasEnough, WentWell}
use Rattle.spec_headline.specs.Run.{Run, Ended, MetMismatch}

-- a reply that comes where no call of the device fails, and where there is enough of blocks, nodes
-- and numbers
abbrev pub IsGood : Act → Reply → Type 0
IsGood (acts.Begin root size) replies.Granted = Unit {0}
IsGood (acts.Begin root size) replies.Exists = Unit {0}
IsGood (acts.Begin root size) (replies.Leaving handles) = Unit {0}
IsGood (acts.Begin root size) replies.InFlight = Unit {0}
IsGood (acts.Admit root) replies.Admitted = Unit {0}
IsGood (acts.Put index) replies.Written = Unit {0}
IsGood (acts.Settle root) replies.Published = Unit {0}
IsGood (acts.Retire root) replies.Retired = Unit {0}
IsGood (acts.Open slot root) (replies.Opened size) = Unit {0}
IsGood (acts.Open slot root) replies.NotFound = Unit {0}
IsGood (acts.Open slot root) replies.SlotTaken = Unit {0}
IsGood (acts.Fetch slot window) replies.Fetched = Unit {0}
IsGood (acts.Fetch slot window) replies.BadSlot = Unit {0}
IsGood (acts.Read slot off len) replies.Reading = Unit {0}
IsGood (acts.Read slot off len) replies.BadSlot = Unit {0}
IsGood (acts.Scan slot) replies.Reading = Unit {0}
IsGood (acts.Scan slot) replies.BadSlot = Unit {0}
IsGood (acts.Close slot) replies.Closed = Unit {0}
IsGood (acts.Close slot) replies.BadSlot = Unit {0}
IsGood (acts.Unlink root) replies.Unlinked = Unit {0}
IsGood (acts.Unlink root) replies.NotFound = Unit {0}
IsGood acts.Sync replies.Synced = Unit {0}
IsGood acts.List (replies.Listed count) = Unit {0}
IsGood acts.Unmount replies.Unmounted = Unit {0}
IsGood act reply = ⊥

-- each of these events has such a reply
abbrev pub AreGood : List CoreEvent → Type 0
AreGood events = All (λ e. IsGood e.act e.reply) events

-- where no call of the device failed, in a run that had enough, each event has such a reply
abbrev pub EventsGoWell : Type 0
EventsGoWell =
    (run : Run) (next first last : ℕ) → Ended run next first last → ¬ Rose first last
    → HasEnough run.lines run.history next → AreGood run.history.events

-- and where no line met a mismatch either, the run went well
abbrev pub RunsGoWell : Type 0
RunsGoWell =
    (run : Run) (next first last : ℕ) → Ended run next first last → ¬ Rose first last
    → HasEnough run.lines run.history next → ¬ MetMismatch run → WentWell run

-- and no write or sync fails: nothing stops the volume after any of its events
abbrev pub NothingStops : Type 0
NothingStops =
    (run : Run) (next first last : ℕ) → Ended run next first last → ¬ Rose first last
    → HasEnough run.lines run.history next → (xs ys : List CoreEvent)
    → run.history.events ≡ xs ++ ys → (last_state (up_to run.history xs) next).stopped ≡ None
