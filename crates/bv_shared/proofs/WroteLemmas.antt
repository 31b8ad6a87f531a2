-- What the puts of a session's add wrote: by its entries, and by the volume's events.
use Rattle.std.proofs.Common.{◌≡◌, ◌≤◌, ◌<◌, ◌==◌, ℕ, zero, suc, Bool, true, false, cond, Option, Some, None, List, [], ◌∷◌, ◌++◌, length, map, take, refl, sym, ap, ◌∙◌, subst, arith, append_assoc}
use Rattle.std.specs.Prelude.{Result, Ok, Err, IfSome, IsSomeAnd, OnOk, slice_get, slice_index}
use Rattle.std.proofs.lemmas.List.{map-append}
use Rattle.spec_disk.specs.declared.event.Event.{Event}
use Rattle.spec_disk.specs.declared.event.Event.TheVariants as device
use Rattle.spec_crash.specs.Timing.{IsOkWrite, IsPut, IsWritten, event_at}
use Rattle.spec_record.specs.Geometry.{block_at}
use Rattle.spec_tree.specs.Tree.{need_of}
use Rattle.spec_core.specs.History.{first_state, opening_map, setting_of}
use Rattle.spec_core.specs.State.{State}
use Rattle.spec_core.specs.Step.{after}
use Rattle.spec_core.specs.declared.act.Act.{Act}
use Rattle.spec_core.specs.declared.act.Act.TheVariants as acts
use Rattle.spec_core.specs.declared.event.CoreEvent.{CoreEvent}
use Rattle.spec_core.specs.declared.reply.Reply.{Reply}
use Rattle.spec_core.specs.declared.reply.Reply.TheVariants as replies
use Rattle.spec_core.specs.declared.setting.Setting.{Setting}
use Rattle.spec_core.specs.declared.who.Who.{Who}
use Rattle.spec_session.specs.Conform.{events_of}
use Rattle.bv_device.specs.Told.{Disk, disk_with}
use Rattle.bv_store.specs.Stored.{Grows}
use Rattle.bv_turn.specs.Entries.{entries_of}
use Rattle.bv_session.specs.declared.entry.Entry.{Entry}
use Rattle.bv_session.specs.declared.entry.Told.{Told}
use Rattle.bv_session.specs.Disk.{told_after}
use Rattle.bv_session.specs.Events.{NotesAs, reply_or}
use Rattle.bv_session.specs.Written.{EndsInWrite, Wrote, last_bytes, told_bytes, written, written_after, written_from}
use Rattle.bv_volume.specs.Adding.{Writes}
use Rattle.bv_volume.specs.Answers.{put_reply}
use Rattle.bv_volume.specs.Events.{Does}
use Rattle.bv_volume.specs.Seen.{Seen}
use Rattle.bv_volume.specs.Sessions.{HasPut, PutsAreWrites, blocks_written, bytes_of}
use Rattle.spec_served.specs.Adds.{puts_after, puts_from}
use Rattle.bv_volume.specs.declared.putting.PutFault.{PutFault}
use Rattle.bv_volume.specs.declared.putting.PutFault.TheVariants as put
use Rattle.bv_volume.specs.declared.tokens.Admitted.{Admitted}
use Rattle.bv_writer.specs.Blocks.{IsBlobOf}
use Rattle.bv_shared.specs.Answers.{put_outcome}
use Rattle.bv_shared.specs.Entries.{device_events, entries_from, entries_in, entry_of, told_of}
use Rattle.bv_shared.specs.Since.{AreOfOneDisk, AreWithin, EndBy, Since}
use Rattle.bv_shared.proofs.GainLemmas.{entry, gains_entry}
use Rattle.bv_shared.proofs.ToldLemmas.{ends_in, last_at, take_next}

-- ---- what was told by an event's end, and the device's event there

last_one : (xs : List Event) (x : Event) → last_bytes (xs ++ x ∷ []) ≡ bytes_of (Some x)
last_one [] (device.Write at bytes ok) = refl
last_one [] (device.Sync ok) = refl
last_one (device.Write b bs ok ∷ []) x = last_one [] x
last_one (device.Write b bs ok ∷ y ∷ ys) x = last_one (y ∷ ys) x
last_one (device.Sync ok ∷ ys) x = last_one ys x

is_there : (xs : List Event) (k : ℕ) → k < length xs → (x : Event) × (slice_get xs k ≡ Some x)
is_there [] k lt = absurd (omega (arith, lt))
is_there (x ∷ xs) zero lt = (x, refl)
is_there (x ∷ xs) (suc k) lt = is_there xs k (omega (arith, lt))

told_by : (b : Told) (trace : List Event) (calls : ℕ) → 1 ≤ calls → calls ≤ length trace → told_bytes (told_after (Some b) trace calls) ≡ bytes_of (event_at trace calls)
told_by b trace zero one le = absurd (omega (arith, one))
told_by b trace (suc k) one le =
    let there = is_there trace k (omega (arith, le)) in
    ap last_bytes (ap (λ (xs : List Event). b.trace ++ xs) (take_next trace k there.0 there.1) ∙ sym (append_assoc b.trace (take k trace) (there.0 ∷ [])))
    ∙ last_one (b.trace ++ take k trace) there.0 ∙ sym (ap bytes_of there.1)

-- an event of the device at this number is there for a number from 1 on
made_call : (trace : List Event) (calls : ℕ) → IsSomeAnd (event_at trace calls) IsOkWrite → 1 ≤ calls
made_call trace zero k = absurd k
made_call trace (suc n) k = omega arith

-- ---- what was written, event by event

module _ (f : ℕ → List ℕ) where
  step_is : (blocks : List (List ℕ)) (puts : List ℕ) → blocks ≡ map f puts → (act : Act) (reply : Reply) (told : Option Told) (calls : ℕ) → (IsPut act × (reply ≡ replies.Written) → told_bytes told ≡ f calls) → written_after blocks act reply told ≡ map f (puts_after puts act reply calls)
  step_is blocks puts is (acts.Begin r n) reply told calls one = is
  step_is blocks puts is (acts.Admit r) reply told calls one = refl
  step_is blocks puts is (acts.Put i) replies.Granted told calls one = is
  step_is blocks puts is (acts.Put i) replies.Admitted told calls one = is
  step_is blocks puts is (acts.Put i) replies.Written told calls one =
      (λ j. is j ++ one (tt, refl) j ∷ []) ∙ sym (map-append f puts (calls ∷ []))
  step_is blocks puts is (acts.Put i) replies.Published told calls one = is
  step_is blocks puts is (acts.Put i) replies.Retired told calls one = is
  step_is blocks puts is (acts.Put i) (replies.Opened n) told calls one = is
  step_is blocks puts is (acts.Put i) replies.Fetched told calls one = is
  step_is blocks puts is (acts.Put i) replies.Reading told calls one = is
  step_is blocks puts is (acts.Put i) replies.Closed told calls one = is
  step_is blocks puts is (acts.Put i) replies.Unlinked told calls one = is
  step_is blocks puts is (acts.Put i) replies.Synced told calls one = is
  step_is blocks puts is (acts.Put i) (replies.Listed n) told calls one = is
  step_is blocks puts is (acts.Put i) replies.Unmounted told calls one = is
  step_is blocks puts is (acts.Put i) (replies.Stopped n) told calls one = is
  step_is blocks puts is (acts.Put i) replies.Exists told calls one = is
  step_is blocks puts is (acts.Put i) (replies.Leaving n) told calls one = is
  step_is blocks puts is (acts.Put i) replies.InFlight told calls one = is
  step_is blocks puts is (acts.Put i) (replies.NoSpace n m) told calls one = is
  step_is blocks puts is (acts.Put i) (replies.NoNodes n m) told calls one = is
  step_is blocks puts is (acts.Put i) replies.NumberEnd told calls one = is
  step_is blocks puts is (acts.Put i) (replies.DeviceFault n) told calls one = is
  step_is blocks puts is (acts.Put i) (replies.ReadFault n) told calls one = is
  step_is blocks puts is (acts.Put i) replies.NotFound told calls one = is
  step_is blocks puts is (acts.Put i) replies.SlotTaken told calls one = is
  step_is blocks puts is (acts.Put i) replies.BadSlot told calls one = is
  step_is blocks puts is (acts.Settle r) reply told calls one = is
  step_is blocks puts is (acts.Retire r) reply told calls one = is
  step_is blocks puts is (acts.Open i r) reply told calls one = is
  step_is blocks puts is (acts.Fetch i w) reply told calls one = is
  step_is blocks puts is (acts.Read i a b) reply told calls one = is
  step_is blocks puts is (acts.Scan i) reply told calls one = is
  step_is blocks puts is (acts.Close i) reply told calls one = is
  step_is blocks puts is (acts.Unlink r) reply told calls one = is
  step_is blocks puts is acts.Sync reply told calls one = is
  step_is blocks puts is acts.List reply told calls one = is
  step_is blocks puts is acts.Unmount reply told calls one = is

module _ (b : Told) (trace : List Event) (g : Setting) (t : ℕ) where
  abbrev byte_at : ℕ → List ℕ
  byte_at calls = bytes_of (event_at trace calls)

  abbrev own_entries : State → List CoreEvent → List CoreEvent → List Entry
  own_entries s past es = entries_of (λ e. e.event.who.session) t (entries_from (Some b) trace g s past es)

  own_step : (own : Bool) (s : State) (past : List CoreEvent) (e : CoreEvent) (es : List Entry) (own_es : List CoreEvent) (blocks : List (List ℕ)) (puts : List ℕ)
      → ((bs : List (List ℕ)) (ps : List ℕ) → bs ≡ map byte_at ps → written_from bs es ≡ map byte_at (puts_from ps own_es))
      → e.calls ≤ length trace → (IsWritten e → IsSomeAnd (event_at trace e.calls) IsOkWrite) → blocks ≡ map byte_at puts
      → written_from blocks (cond own (entry_of (Some b) trace s past e ∷ es) es) ≡ map byte_at (puts_from puts (cond own (e ∷ own_es) own_es))
  own_step true s past e es own_es blocks puts rest within called is =
      rest (written_after blocks e.act e.reply (told_after (Some b) trace e.calls)) (puts_after puts e.act e.reply e.calls)
      (step_is byte_at blocks puts is e.act e.reply (told_after (Some b) trace e.calls) e.calls (λ k. told_by b trace e.calls (made_call trace e.calls (called k)) within))
  own_step false s past e es own_es blocks puts rest within called is = rest blocks puts is

  written_by : (s : State) (past es : List CoreEvent) → EndBy (length trace) es → PutsAreWrites trace es → (blocks : List (List ℕ)) (puts : List ℕ) → blocks ≡ map byte_at puts
      → written_from blocks (own_entries s past es) ≡ map byte_at (puts_from puts (events_of t es))
  written_by s past [] within called blocks puts is = is
  written_by s past (e ∷ es) within called blocks puts is =
      own_step (e.who.session == t) s past e (own_entries (after g s e) (past ++ e ∷ []) es) (events_of t es) blocks puts
      (written_by (after g s e) (past ++ e ∷ []) es within.1 called.1) within.0 called.0 is

-- what an add has written by its session's entries is what the device's events wrote
there_by : (began told : Option Disk) (g : Setting) (s : State) (t : ℕ) (es : List CoreEvent) (P : List (List ℕ) → Type 0) → AreOfOneDisk began told → IfSome told (λ d. EndBy (length d.trace) es) → IfSome told (λ d. PutsAreWrites d.trace es)
    → IfSome (told_of began) (λ b. P (written (entries_of (λ e. e.event.who.session) t (entries_from (told_of began) (device_events told) g s [] es))))
    → IfSome told (λ d. P (blocks_written d.trace (events_of t es)))
there_by began None g s t es P disk within called k = tt
there_by None (Some d) g s t es P disk within called k = absurd disk
there_by (Some b) (Some d) g s t es P disk within called k =
    subst P (written_by (record { base = b.base; trace = b.trace }) d.trace g t s [] es within called [] [] refl) k

pub has_put : (o v : Seen) (session : ℕ) (a : Admitted) → Since o v → AreWithin v → IfSome v.store.told (λ d. PutsAreWrites d.trace v.history.events) → a.put ≡ need_of v.history.version a.size
    → IfSome (told_of v.store.began) (λ d. IsBlobOf v.history.version a.root a.size (written (entries_of (λ e. e.event.who.session) session (entries_in v))))
    → HasPut v session a
has_put o v session a since within puts all written = record {
  all = all;
  there = there_by v.store.began v.store.told (setting_of v.history) (first_state (opening_map v.history) v.next) session v.history.events (IsBlobOf v.history.version a.root a.size) since.3 within puts written;
}

-- ---- a put

put_told : (began o new : Option Disk) (at calls : ℕ) (bytes : List ℕ) → AreOfOneDisk began o → Grows o new (λ d more. more ≡ device.Write at bytes true ∷ []) → IfSome new (λ d. length d.trace ≡ calls)
    → IfSome (told_of began) (λ b. IsSomeAnd (told_after (told_of began) (device_events new) calls) (λ d. EndsInWrite d.trace bytes))
put_told None o new at calls bytes disk grows counted = tt
put_told (Some b) None new at calls bytes disk grows counted = absurd disk
put_told (Some b) (Some d) new at calls bytes disk grows counted =
    let is : new ≡ Some (disk_with d (device.Write at bytes true ∷ [])) = grows.1 ∙ ap (λ (more : List Event). Some (disk_with d more)) grows.2 in
    let long : length (d.trace ++ device.Write at bytes true ∷ []) ≡ calls = subst (λ (x : Option Disk). IfSome x (λ d. length d.trace ≡ calls)) is counted in
    subst (λ (x : Option Disk). IsSomeAnd (told_after (told_of (Some b)) (device_events x) calls) (λ d. EndsInWrite d.trace bytes)) (sym is)
    (ends_in (record { base = b.base; trace = b.trace }) (d.trace ++ device.Write at bytes true ∷ []) calls at bytes (last_at d.trace (device.Write at bytes true) calls long))

pub put_notes : (o v w : Seen) → Since o v → AreWithin v → (who : Who) (a : Admitted) (bytes : List ℕ) (result : Result (Unit {0}) PutFault) → Does v w who (acts.Put a.put) (Some (put_reply result)) → OnOk result (Writes v w a bytes) → IfSome w.store.told (λ d. length d.trace ≡ w.store.calls)
    → NotesAs (entries_in v) (entries_in w) who (acts.Put a.put) (reply_or replies.Written (put_outcome result)) (Wrote (told_of v.store.began) (put_outcome result) bytes)
put_notes o v w since within who a bytes (Ok x) does writes counted = (
  entry v w within who (acts.Put a.put) replies.Written does,
  gains_entry v w within who (acts.Put a.put) replies.Written does,
  refl,
  refl,
  refl,
  put_told v.store.began v.store.told w.store.told (block_at v.store.geometry (slice_index writes.blocks.items a.put)) w.store.calls bytes since.3 writes.next counted,
)
put_notes o v w since within who a bytes (Err (put.Stopped f)) does writes counted =
    (entry v w within who (acts.Put a.put) (replies.Stopped f) does, gains_entry v w within who (acts.Put a.put) (replies.Stopped f) does, refl, refl, refl, tt)
put_notes o v w since within who a bytes (Err (put.DeviceFault f)) does writes counted =
    (entry v w within who (acts.Put a.put) (replies.DeviceFault f) does, gains_entry v w within who (acts.Put a.put) (replies.DeviceFault f) does, refl, refl, refl, tt)
