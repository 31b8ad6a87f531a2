-- A run of a script's sessions over a mounted volume (this project's profile).
use Rattle.std.specs.Prelude.{◌≡◌, ℕ, ◌<◌, ◌⊎◌, List, [], ◌∷◌, ◌++◌, All, Contains, Some, IsSomeAnd}
use Rattle.spec_disk.specs.declared.event.Event.{Event}
use Rattle.spec_disk.specs.Disk.{Blocks}
use Rattle.spec_image.specs.Journal.{journal_of}
use Rattle.spec_image.specs.Replay.{next_number}
use Rattle.spec_image.specs.Volume.{image_super, blobs, IsWhole, IsSound}
use Rattle.spec_window.specs.declared.mismatch.Mismatch.{Mismatch}
use Rattle.spec_core.specs.declared.act.Act.TheVariants as acts
use Rattle.spec_core.specs.declared.reply.Reply.TheVariants as replies
use Rattle.spec_core.specs.declared.event.CoreEvent.{CoreEvent}
use Rattle.spec_core.specs.declared.who.Who.{Who}
use Rattle.spec_core.specs.History.{History, Legal, opening_map}
use Rattle.spec_core.specs.Synced.{Caused}
use Rattle.spec_script.specs.declared.line.ScriptLine.{ScriptLine}
use Rattle.spec_session.specs.Conform.{Conform, Begins, requests_of}
use Rattle.spec_session.specs.declared.end.SessionEnd.{SessionEnd}
use Rattle.spec_session.specs.declared.result.LineResult.{LineResult}
use Rattle.spec_session.specs.declared.result.LineResult.TheVariants as results
use Rattle.spec_session.specs.Text.{results_of}
use Rattle.spec_served.specs.Device.{SeenByAll}
use Rattle.spec_served.specs.Served.{Served, ServedSome}

-- what ran: the lines of the script, the history that came of it, and the results of each session's
-- lines
pub record Run : Type 0 where
  pub lines : List ScriptLine
  pub history : History
  pub results : ℕ → List LineResult

-- the run of these lines with this history, and with these ends of the sessions, each at the place of
-- its session's number
abbrev pub run_of : List ScriptLine → History → List SessionEnd → Run
run_of lines h ends = record { lines = lines; history = h; results = results_of ends }

-- the program itself, which is session 16 at line 0
abbrev pub program : Who
program = record { session = 16; line = 0 }

-- the program has one event, the last, which is an unmount
pub record EndsWithUnmount (h : History) : Type 0 where
  pub sessions : List CoreEvent
  pub unmount : CoreEvent
  pub is : h.events ≡ sessions ++ unmount ∷ []
  pub by : unmount.who ≡ program
  pub act : unmount.act ≡ acts.Unmount
  pub others : All (λ e. e.who.session < 16) sessions

-- the program has no event
abbrev pub HasNoUnmount : History → Type 0
HasNoUnmount h = All (λ e. e.who.session < 16) h.events

-- What holds of a run whose sessions did all their lines, on any device. `next` is the number of the
-- first entry, `first` and `last` are the device's counts of faults before and after.
pub record Ended (run : Run) (next first last : ℕ) : Type 0 where
  pub legal : Legal run.history next
  pub conform : (s : ℕ) → s < 16 → Conform run.lines run.history s
  pub served : (s : ℕ) → s < 16 → Served run.lines run.history s (run.results s)
  pub unmount : EndsWithUnmount run.history
  pub caused : Caused run.history first last

-- What holds of a run that ended for want of memory, on any device: each session did some first
-- lines, and nothing was unmounted, or all was and the text found no memory.
pub record CutShort (run : Run) (next first last : ℕ) : Type 0 where
  pub legal : Legal run.history next
  pub begins : (s : ℕ) → s < 16 → Begins run.lines run.history s
  pub served : (s : ℕ) → s < 16 → ServedSome run.lines run.history s (run.results s)
  pub unmount : HasNoUnmount run.history ⊎ EndsWithUnmount run.history
  pub caused : Caused run.history first last

-- What holds of the results on a device that tells: `base` is the disk as the run began, `events`
-- are the device's events since.
abbrev pub Seen : Blocks → List Event → Run → Type 0
Seen base events run =
    (s : ℕ) → s < 16
    → SeenByAll base events run.history (requests_of s run.lines) (run.results s)

-- ---- what the run began with

-- the history opens with the blobs of this image, and `next` is the number of its next entry
pub record OpensWith (base : Blocks) (h : History) (next : ℕ) : Type 0 where
  pub map : blobs base ≡ Some (opening_map h)
  pub geometry : IsSomeAnd (image_super base) (λ s.
      (h.blocks ≡ s.geometry.blocks) × (h.nodes ≡ s.geometry.nodes)
      × (h.version ≡ s.geometry.version)
      × IsSomeAnd (journal_of s.geometry base).info (λ i.
      next ≡ next_number (journal_of s.geometry base) i))

-- the image is well formed, and each of its blobs is whole
abbrev pub HasWholeBlobs : Blocks → Type 0
HasWholeBlobs base =
    IsSomeAnd (blobs base) (λ held. All (λ entry. IsWhole base entry.0) held)

-- the same, and each of its blobs is sound
abbrev pub HasSoundBlobs : Blocks → Type 0
HasSoundBlobs base =
    IsSomeAnd (blobs base) (λ held. All (λ entry. IsSound base entry.0) held)

-- ---- how it ended

-- an event met a fault of the device
abbrev pub MetFault : History → Type 0
MetFault h =
    (e : CoreEvent) × (f : ℕ) × Contains h.events e
    × ((e.reply ≡ replies.DeviceFault f) ⊎ (e.reply ≡ replies.ReadFault f))

-- a line replied a mismatch
abbrev pub MetMismatch : Run → Type 0
MetMismatch run =
    (s : ℕ) × (r : LineResult) × (m : Mismatch)
    × (s < 16) × Contains (run.results s) r × (r ≡ results.Mismatch m)
