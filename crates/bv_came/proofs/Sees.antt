-- What the results of all sessions say of the device, by the volume that they ran over.
use Rattle.std.proofs.Common.{◌≡◌, ◌≤◌, ℕ, ◌<◌, Option, Some, List, [], ◌∷◌, ◌++◌, length, take, sym, ap, ◌∙◌, subst, append_assoc}
use Rattle.std.specs.Prelude.{IfSome}
use Rattle.std.proofs.lemmas.List.{take-append-le}
use Rattle.spec_disk.specs.Images.{IsSettled}
use Rattle.spec_disk.specs.declared.event.Event.{Event}
use Rattle.spec_tree.specs.declared.Digest.{Digest}
use Rattle.spec_tree.specs.declared.blob.Blob.{Blob}
use Rattle.spec_core.specs.History.{History, Legal, last_state, opening_map}
use Rattle.spec_core.specs.State.{find}
use Rattle.spec_core.specs.declared.event.CoreEvent.{CoreEvent}
use Rattle.spec_crash.specs.Crash.{HoldsWhole}
use Rattle.spec_orderly.specs.Slots.{AreMounted}
use Rattle.spec_script.specs.declared.line.ScriptLine.{ScriptLine}
use Rattle.spec_seen.proofs.ByLineLemmas.{front_by}
use Rattle.spec_seen.specs.Held.{up_to}
use Rattle.spec_served.specs.Adds.{AreByLine}
use Rattle.spec_served.specs.Device.{SeenByAll}
use Rattle.spec_session.specs.Conform.{requests_of}
use Rattle.spec_session.specs.declared.result.LineResult.{LineResult}
use Rattle.bv_device.specs.Told.{Disk, now_of}
use Rattle.bv_volume.specs.Seen.{Seen}
use Rattle.bv_came.proofs.Lines.{EndWithin}
use Rattle.bv_came.proofs.Session.{sessions_see}
use Rattle.bv_shared.specs.Moments.{BeganWhole, HasItsBlob, IsSure, Moments}
use Rattle.bv_came.specs.Sees.{RanOver, SessionsSee}
use Rattle.bv_came.specs.There.{BlobsAreThere}
use Rattle.bv_shared.specs.Entries.{basis_of, device_events, entries_in, told_of}
use Rattle.bv_session.specs.declared.entry.Told.{Told}
use Rattle.bv_session.specs.Events.{events_in, history_of}
use Rattle.bv_shared.specs.ServeLaws.{afters, history_is, tells}
use Rattle.bv_shared.specs.Since.{AreWithin, EndBy}

if_some : {A : Type 0} (P : A → Type 0) (o : Option A) (x : A) → o ≡ Some x → IfSome o P → P x
if_some {A} P o x is h = let Q : Option A → Type 0 = λ y. IfSome y P in subst Q is h

ends_at : (calls : ℕ) (before : List CoreEvent) (e : CoreEvent) (rest : List CoreEvent) → EndBy calls (before ++ e ∷ rest) → e.calls ≤ calls
ends_at calls [] e rest k = k.0
ends_at calls (x ∷ before) e rest k = ends_at calls before e rest k.1

module _ (v : Seen) (b d : Disk) (began : v.store.began ≡ Some b) (told : v.store.told ≡ Some d) where
  -- the disk had the map's blobs as each event ended, by the moments
  abbrev Had : Disk → Disk → List CoreEvent → CoreEvent → Type 0
  Had x y before e =
      (root : Digest) (blob : Blob) → find (last_state (up_to v.history (before ++ e ∷ [])) v.next).map root ≡ Some blob → IsSure (last_state (up_to v.history (before ++ e ∷ [])) v.next) root
      → HasItsBlob (now_of x) (take e.calls y.trace) (before ++ e ∷ []) root blob

  there_by : Moments v → AreByLine [] v.history.events → BeganWhole v.store.began v.history → BlobsAreThere (now_of b) d.trace v.history v.next
  there_by moments lined whole before e rest root blob is found sure =
      let is_then : v.history.events ≡ (before ++ e ∷ []) ++ rest = is ∙ sym (append_assoc before (e ∷ []) rest) in
      let lines = front_by [] (before ++ e ∷ []) rest (subst (λ (l : List CoreEvent). AreByLine [] l) is_then lined) in
      if_some (λ (y : Disk). Had b y before e) v.store.told d told
      (if_some (λ (x : Disk). IfSome v.store.told (λ y. Had x y before e)) v.store.began b began (moments before e rest is whole lines))
      root blob found sure

  -- each event ended within what is told
  within_by : (more : List Event) → AreWithin v → EndWithin d.trace more v.history
  within_by more within before e rest is =
      take-append-le e.calls d.trace more
      (ends_at (length d.trace) before e rest (subst (λ (l : List CoreEvent). EndBy (length d.trace) l) is (if_some (λ (x : Disk). EndBy (length x.trace) v.history.events) v.store.told d told within)))

  module _ (faults : ℕ) (lines : List ScriptLine) (results : ℕ → List LineResult) (more : List Event) (late : List CoreEvent) (ran : RanOver v faults lines results) (whole : BeganWhole v.store.began v.history) where
    began_whole : IsSettled b.trace × HoldsWhole (now_of b) (opening_map v.history)
    began_whole = if_some (λ (x : Disk). IsSettled x.trace × HoldsWhole (now_of x) (opening_map v.history)) v.store.began b began whole

    abbrev opened : Told
    opened = record { base = b.base; trace = b.trace }

    same : history_of (basis_of v faults) (entries_in v) ≡ v.history
    same = history_is v faults

    -- of the history of the entries
    seen_by_entries : (s : ℕ) → s < 16
        → SeenByAll (now_of b) (device_events v.store.told ++ more) (record (history_of (basis_of v faults) (entries_in v)) { events = events_in (entries_in v) ++ late }) (requests_of s lines) (results s)
    seen_by_entries =
        sessions_see (basis_of v faults) opened (ap told_of began) (device_events v.store.told) more (entries_in v) (tells v faults) (afters v) lines ran.lawful results ran.shows late
        (subst (λ (h : History). Legal h v.next) (sym same) ran.legal)
        (subst (λ (h : History). AreMounted h.events) (sym same) ran.mounted)
        (subst (λ (h : History). AreByLine [] h.events) (sym same) ran.lined)
        began_whole.0 (subst (λ (h : History). HoldsWhole (now_of b) (opening_map h)) (sym same) began_whole.1)
        (subst (λ (x : List Event × History). BlobsAreThere (now_of b) x.0 x.1 v.next) (λ i. (sym (ap device_events told) i, sym same i)) (there_by ran.moments ran.lined whole))
        (subst (λ (x : List Event × History). EndWithin x.0 more x.1) (λ i. (sym (ap device_events told) i, sym same i)) (within_by more ran.within))

    seen_by_volume : (s : ℕ) → s < 16 → SeenByAll (now_of b) (d.trace ++ more) (record v.history { events = v.history.events ++ late }) (requests_of s lines) (results s)
    seen_by_volume s low =
        subst (λ (x : List Event × History). SeenByAll (now_of b) (x.0 ++ more) (record x.1 { events = x.1.events ++ late }) (requests_of s lines) (results s)) (λ i. (ap device_events told i, same i))
        (seen_by_entries s low)

pub sessions_see_all : SessionsSee
sessions_see_all v faults lines results b d more late began told ran whole s low = seen_by_volume v b d began told faults lines results more late ran whole s low
