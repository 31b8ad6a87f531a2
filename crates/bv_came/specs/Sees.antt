-- What the lines of a run's sessions say of a device that tells (this project's profile).
use Rattle.std.specs.Prelude.{◌≡◌, ℕ, ◌<◌, ◌==◌, List, [], ◌++◌, filter, Some}
use Rattle.spec_disk.specs.declared.event.Event.{Event}
use Rattle.spec_core.specs.History.{Legal}
use Rattle.spec_core.specs.declared.event.CoreEvent.{CoreEvent}
use Rattle.spec_orderly.specs.Slots.{AreMounted}
use Rattle.spec_script.specs.Lawful.{AreLawful}
use Rattle.spec_script.specs.declared.line.ScriptLine.{ScriptLine}
use Rattle.spec_served.specs.Adds.{AreByLine}
use Rattle.spec_served.specs.Device.{SeenByAll}
use Rattle.spec_session.specs.Conform.{requests_of}
use Rattle.spec_session.specs.declared.result.LineResult.{LineResult}
use Rattle.bv_device.specs.Told.{Disk, now_of}
use Rattle.bv_volume.specs.Seen.{Seen}
use Rattle.bv_shared.specs.Moments.{BeganWhole, Moments}
use Rattle.bv_shared.specs.Entries.{basis_of, entries_in}
use Rattle.bv_session.specs.declared.entry.Basis.{Basis}
use Rattle.bv_session.specs.declared.entry.Entry.{Entry}
use Rattle.bv_session.specs.Shown.{ShowSome}
use Rattle.bv_shared.specs.Since.{AreWithin}

-- the entries of a session
abbrev pub own_entries : ℕ → List Entry → List Entry
own_entries s entries = filter (λ e. e.event.who.session == s) entries

-- these are the results of each session's lines of a script, and each came of pages that the
-- session's own entries brought
abbrev pub SessionsShow : Basis → List ScriptLine → List Entry → (ℕ → List LineResult) → Type 0
SessionsShow b lines entries results =
    (s : ℕ) → s < 16
    → ShowSome b b.geometry.version [] (requests_of s lines) (own_entries s entries) (results s)

-- what a volume is that a script's sessions ran over, with these results
pub record RanOver (v : Seen) (faults : ℕ) (lines : List ScriptLine) (results : ℕ → List LineResult)
    : Type 0 where
  pub lawful : AreLawful lines
  pub lined : AreByLine [] v.history.events
  pub legal : Legal v.history v.next
  pub mounted : AreMounted v.history.events
  pub within : AreWithin v
  pub moments : Moments v
  pub shows : SessionsShow (basis_of v faults) lines (entries_in v) results

-- Where the device tells, was settled when the mount began and had the opening's blobs, each whole, the
-- results say of the disk what they should, also once a write or sync has failed. Further events of
-- the history and of the device may come behind those of the sessions.
abbrev pub SessionsSee : Type 0
SessionsSee =
    (v : Seen) (faults : ℕ) (lines : List ScriptLine) (results : ℕ → List LineResult) (b d : Disk)
    (more : List Event) (late : List CoreEvent)
    → v.store.began ≡ Some b → v.store.told ≡ Some d → RanOver v faults lines results
    → BeganWhole v.store.began v.history → (s : ℕ) → s < 16
    → SeenByAll (now_of b) (d.trace ++ more)
    (record v.history { events = v.history.events ++ late }) (requests_of s lines) (results s)
