-- Blobs whose windows verify where lines open and read them: their lines meet no mismatch (this
-- project's profile).
use Rattle.std.specs.Prelude.{◌≡◌, ℕ, ◌<◌, List, ◌∷◌, ◌++◌, Some}
use Rattle.spec_tree.specs.Tree.{windows_of}
use Rattle.spec_disk.specs.declared.event.Event.{Event}
use Rattle.spec_disk.specs.Disk.{Blocks}
use Rattle.spec_core.specs.History.{History}
use Rattle.spec_core.specs.declared.event.CoreEvent.{CoreEvent}
use Rattle.spec_script.specs.Lawful.{AreLawful}
use Rattle.spec_session.specs.Conform.{events_of}
use Rattle.spec_served.specs.Device.{At, FitsAt, blob_by}
use Rattle.spec_served.specs.Served.{Served}
use Rattle.spec_headline.specs.Run.{MetMismatch, Run, Seen}

-- the history has this own event of a line that opened, reads or scans this blob, after these events
pub record IsAbout (h : History) (at : At) : Type 0 where
  pub rest : List CoreEvent
  pub is : h.events ≡ at.before ++ at.own ∷ rest
  pub blob : blob_by (events_of at.own.who.session at.before) at.own.act at.own.reply
      ≡ Some at.blob

-- as each such event ended, each window of its blob verifies there
abbrev pub LinesFit : Blocks → List Event → History → Type 0
LinesFit base told h =
    (at : At) → IsAbout h at → (w : ℕ) → w < windows_of at.blob.1 → FitsAt base told h at w

-- where the results say of the device what they should, such a run met no mismatch
abbrev pub LinesThatFitMeetNone : Type 0
LinesThatFitMeetNone =
    (base : Blocks) (told : List Event) (run : Run) → AreLawful run.lines
    → ((s : ℕ) → s < 16 → Served run.lines run.history s (run.results s))
    → Seen base told run → LinesFit base told run.history → ¬ MetMismatch run
