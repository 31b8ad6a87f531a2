-- What the results of all sessions say of the device, by the entries of the value that they ran over.
use Rattle.std.proofs.Common.{◌≡◌, ℕ, ◌<◌, Some, List, [], ◌++◌, refl}
use Rattle.spec_disk.specs.Disk.{Blocks, now_after}
use Rattle.spec_disk.specs.Images.{IsSettled}
use Rattle.spec_disk.specs.declared.event.Event.{Event}
use Rattle.spec_crash.specs.Crash.{HoldsWhole}
use Rattle.spec_core.specs.History.{History, Legal, opening_map}
use Rattle.spec_core.specs.declared.event.CoreEvent.{CoreEvent}
use Rattle.spec_orderly.specs.Slots.{AreMounted}
use Rattle.spec_script.specs.Lawful.{AreLawful}
use Rattle.spec_script.specs.declared.line.ScriptLine.{ScriptLine}
use Rattle.spec_served.specs.Adds.{AreByLine}
use Rattle.spec_served.specs.Device.{SeenByAll}
use Rattle.spec_session.specs.Conform.{requests_of}
use Rattle.spec_session.specs.declared.result.LineResult.{LineResult}
use Rattle.bv_came.proofs.Due.{all_due}
use Rattle.bv_came.proofs.Given.{given}
use Rattle.bv_came.proofs.Lines.{EndWithin, session_sees}
use Rattle.bv_came.specs.Sees.{SessionsShow}
use Rattle.bv_came.specs.There.{BlobsAreThere}
use Rattle.bv_session.specs.Disk.{EachAfter, EachTells}
use Rattle.bv_session.specs.declared.entry.Basis.{Basis}
use Rattle.bv_session.specs.declared.entry.Entry.{Entry}
use Rattle.bv_session.specs.declared.entry.Told.{Told}
use Rattle.bv_session.specs.Events.{events_in, history_by}

module _ (b : Basis) (d : Told) (is_told : b.told ≡ Some d) (told more : List Event) (entries : List Entry)
    (tells : EachTells b.told told entries) (afters : EachAfter entries) (lines : List ScriptLine) (lawful : AreLawful lines) (results : ℕ → List LineResult)
    (shows : SessionsShow b lines entries results) (late : List CoreEvent) where
  abbrev base : Blocks
  base = now_after d.base d.trace

  abbrev history : History
  history = history_by b (events_in entries)

  -- each session's results are seen
  pub sessions_see : Legal history b.next → AreMounted (events_in entries) → AreByLine [] (events_in entries) → IsSettled d.trace → HoldsWhole base (opening_map history)
      → BlobsAreThere base told history b.next → EndWithin told more history
      → (s : ℕ) → s < 16 → SeenByAll base (told ++ more) (record history { events = events_in entries ++ late }) (requests_of s lines) (results s)
  sessions_see legal mounted lined settled whole there within s low =
      session_sees b base told more history b.next late legal mounted lined whole.is there within entries refl s
      (given b d is_told told entries tells afters legal mounted lined settled whole whole.is there s)
      b.geometry.version (requests_of s lines) (results s) (all_due s 1 lines lawful.rise) (shows s low)
