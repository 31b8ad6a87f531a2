-- What stops leave of the ring's calls, by the stops of their plans.
use Rattle.std.proofs.Common.{◌≡◌, ◌≤◌, ℕ, zero, suc, List, [], ◌∷◌, ◌++◌, length, Option, Some, None, Result, Ok, Err, refl, ap, sym, ◌∙◌, subst, arith}
use Rattle.std.specs.Prelude.{IfSome, OnOk}
use Rattle.spec_disk.specs.declared.event.Event.{Event}
use Rattle.spec_disk.specs.Disk.{Blocks}
use Rattle.spec_record.specs.declared.info.Info.{Info}
use Rattle.spec_record.specs.Entry.{Entry}
use Rattle.spec_record.specs.EntryBlocks.{entry_blocks, entry_slots}
use Rattle.spec_record.proofs.SpelledEntry.{length-entry_blocks}
use Rattle.bv_device.specs.Told.{Disk, disk_with}
use Rattle.bv_device.specs.Plan.{Follows}
use Rattle.bv_device.specs.Seen.{Seen, Performs}
use Rattle.bv_device.proofs.PlanLemmas.{disk_with-nil}
use Rattle.bv_journal.specs.Holds.{HoldsOneOf, OldOrNew, entries_of}
use Rattle.bv_journal.specs.Plans.{ring_writes, checkpoint_plan}
use Rattle.bv_journal.specs.Rests.{AtRest, slot_behind}
use Rattle.bv_journal.specs.Stops.{Stops}
use Rattle.bv_journal.proofs.PlanLemmas.{IsPlan-ring, IsPlan-checkpoint}
use Rattle.bv_journal.proofs.StopLemmas.{Left-run, At-end}
use Rattle.bv_journal.proofs.AppendLemmas.{append-stops, append-done}
use Rattle.bv_journal.proofs.CheckpointLemmas.{checkpoint-stops, checkpoint-done}
use Rattle.bv_ring.specs.Cursor.{Cursor, IsCursor, StandsBehind, past, emptied, info_at_cursor}
use Rattle.bv_ring.specs.Stops.{MayAppend, AppendStops, AppendRests, MayCheckpoint, CheckpointStops, CheckpointRests}
use Rattle.bv_ring.proofs.CursorLemmas.{stands-past, stands-emptied}

-- what is said of each disk that a device may tell holds of what it told
told_by : {P : Disk → Type 0} (told : Option Disk) → ((d : Disk) → told ≡ Some d → P d) → IfSome told P
told_by None each = tt
told_by (Some d) each = each d refl

-- ---- an append

-- the plan of an append
abbrev pub entry_plan : Cursor → Blocks → List Event
entry_plan c blocks = ring_writes c.geometry c.slot blocks

module _ (c : Cursor) (blocks : Blocks) (d : Disk) (i : Info) (es : List Entry) (meta : Blocks) (e : Entry) (may : MayAppend c i es meta blocks e d) where
  -- the plan is that of the entry's blocks behind the others
  same_entry : ring_writes c.geometry (slot_behind c.geometry i es) (entry_blocks e) ≡ entry_plan c blocks
  same_entry = λ k. ring_writes c.geometry (sym may.behind.slot k) (sym may.blocks_are k)

  entry_stops : Stops d (entry_plan c blocks) (OldOrNew c.geometry i es meta e)
  entry_stops = subst (λ (p : List Event). Stops d p (OldOrNew c.geometry i es meta e)) same_entry (append-stops c.geometry i es meta d e may.rests may.next)

  entry_done : AtRest c.geometry i es (Some e) meta (disk_with d (entry_plan c blocks))
  entry_done = subst (λ (p : List Event). AtRest c.geometry i es (Some e) meta (disk_with d p)) same_entry (append-done c.geometry i es meta d e may.rests may.next)

  size : length blocks ≡ entry_slots e
  size = ap (length {A = List ℕ}) may.blocks_are ∙ length-entry_blocks e

-- a run of the plan
pub append_stops : {T E : Type 0} (r : Result T E) (c : Cursor) (blocks : Blocks) (old new : Seen) → Performs r (entry_plan c blocks) old new → AppendStops c blocks old new
append_stops r c blocks old new performs = told_by old.told (λ d told i es meta e may.
    Left-run r d (entry_plan c blocks) new.told (OldOrNew c.geometry i es meta e) (IsPlan-ring c.geometry c.slot blocks) (entry_stops c blocks d i es meta e may)
    (subst (λ (o : Option Disk). Follows r (entry_plan c blocks) o new.told) told performs.plan))

stops_none : (d : Disk) (plan : List Event) (P : Blocks → Type 0) → Stops d plan P → Stops d [] P
stops_none d plan P stops zero le = stops zero (omega arith)
stops_none d plan P stops (suc k) le = absurd (omega (arith, le))

-- nothing was done
pub append_stops-none : (c : Cursor) (blocks : Blocks) (old new : Seen) → new ≡ old → AppendStops c blocks old new
append_stops-none c blocks old new same = told_by old.told (λ d told i es meta e may. record {
  events = [];
  is = ap (λ (s : Seen). s.told) same ∙ told ∙ ap (λ (x : Disk). Some x) (sym (disk_with-nil d));
  stops = stops_none d (entry_plan c blocks) (OldOrNew c.geometry i es meta e) (entry_stops c blocks d i es meta e may);
})

-- an Ok run of the plan
pub append_rests : {T E : Type 0} (r : Result T E) (c : Cursor) (blocks : Blocks) (now : Cursor) (old new : Seen) → Performs r (entry_plan c blocks) old new → length blocks ≤ c.room → now ≡ past c (length blocks)
    → OnOk r (AppendRests c blocks now old new)
append_rests (Err x) c blocks now old new performs fits is = tt
append_rests {T} {E} (Ok v) c blocks now old new performs fits is = told_by old.told (λ d told i es meta e may. (
  At-end {T = T} {E = E} (Ok v) d (entry_plan c blocks) new.told (AtRest c.geometry i es (Some e) meta) (entry_done c blocks d i es meta e may)
      (subst (λ (o : Option Disk). Follows {T = T} {E = E} (Ok v) (entry_plan c blocks) o new.told) told performs.plan),
  subst (λ (x : Cursor). StandsBehind x i (es ++ e ∷ [])) (sym is) (stands-past c i es e (length blocks) (size c blocks d i es meta e may) fits may.behind),
))

-- ---- a checkpoint

-- the plan of a checkpoint
abbrev pub place_plan : Cursor → Blocks → List Event
place_plan c full = checkpoint_plan c.geometry full (info_at_cursor c)

module _ (c : Cursor) (full : Blocks) (is : IsCursor c) (d : Disk) (i : Info) (es : List Entry) (more : Option Entry) (meta : Blocks) (may : MayCheckpoint c i es more meta full d) where
  abbrev all : List Entry
  all = es ++ entries_of more

  place_stops : Stops d (place_plan c full) (HoldsOneOf c.geometry meta full)
  place_stops =
      subst (λ (m : Blocks). Stops d (place_plan c m) (HoldsOneOf c.geometry meta m)) (sym may.full_is)
      (checkpoint-stops c.geometry i (info_at_cursor c) es more meta d may.rests may.behind.slot may.behind.number is.number.to_high)

  place_done : AtRest c.geometry (info_at_cursor c) [] None full (disk_with d (place_plan c full))
  place_done =
      subst (λ (m : Blocks). AtRest c.geometry (info_at_cursor c) [] None m (disk_with d (place_plan c m))) (sym may.full_is)
      (checkpoint-done c.geometry i (info_at_cursor c) es more meta d may.rests may.behind.slot may.behind.number is.number.to_high)

pub checkpoint_stops : {T E : Type 0} (r : Result T E) (c : Cursor) (full : Blocks) (old new : Seen) → IsCursor c → Performs r (place_plan c full) old new → CheckpointStops c full old new
checkpoint_stops r c full old new is performs = told_by old.told (λ d told i es more meta may.
    Left-run r d (place_plan c full) new.told (HoldsOneOf c.geometry meta full) (IsPlan-checkpoint c.geometry full (info_at_cursor c)) (place_stops c full is d i es more meta may)
    (subst (λ (o : Option Disk). Follows r (place_plan c full) o new.told) told performs.plan))

pub checkpoint_rests : {T E : Type 0} (r : Result T E) (c : Cursor) (full : Blocks) (now : Cursor) (old new : Seen) → IsCursor c → Performs r (place_plan c full) old new → now ≡ emptied c
    → OnOk r (CheckpointRests c full now old new)
checkpoint_rests (Err x) c full now old new is performs same = tt
checkpoint_rests {T} {E} (Ok v) c full now old new is performs same = told_by old.told (λ d told i es more meta may. (
  At-end {T = T} {E = E} (Ok v) d (place_plan c full) new.told (AtRest c.geometry (info_at_cursor c) [] None full) (place_done c full is d i es more meta may)
      (subst (λ (o : Option Disk). Follows {T = T} {E = E} (Ok v) (place_plan c full) o new.told) told performs.plan),
  subst (λ (x : Cursor). StandsBehind x (info_at_cursor c) []) (sym same) (stands-emptied c is.slot),
))

-- ---- of a ring whose fields a contract sees as a cursor

pub append_stops-as : {T E : Type 0} (r : Result T E) (inside seen : Cursor) (blocks : Blocks) (old new : Seen) → inside ≡ seen → Performs r (entry_plan inside blocks) old new → AppendStops seen blocks old new
append_stops-as r inside seen blocks old new same performs = subst (λ (c : Cursor). AppendStops c blocks old new) same (append_stops r inside blocks old new performs)

pub append_rests-as : {E : Type 0} (inside seen : Cursor) (blocks : Blocks) (now : Cursor) (old new : Seen) → inside ≡ seen → Performs {T = Unit {0}} {E = E} (Ok tt) (entry_plan inside blocks) old new → length blocks ≤ seen.room → now ≡ past seen (length blocks)
    → AppendRests seen blocks now old new
append_rests-as {E} inside seen blocks now old new same performs fits is =
    append_rests {T = Unit {0}} {E = E} (Ok tt) seen blocks now old new (subst (λ (c : Cursor). Performs {T = Unit {0}} {E = E} (Ok tt) (entry_plan c blocks) old new) same performs) fits is

pub checkpoint_stops-as : {T E : Type 0} (r : Result T E) (inside seen : Cursor) (full : Blocks) (old new : Seen) → inside ≡ seen → IsCursor inside → Performs r (place_plan inside full) old new → CheckpointStops seen full old new
checkpoint_stops-as r inside seen full old new same is performs = subst (λ (c : Cursor). CheckpointStops c full old new) same (checkpoint_stops r inside full old new is performs)

pub checkpoint_rests-as : {E : Type 0} (inside seen : Cursor) (full : Blocks) (now : Cursor) (old new : Seen) → inside ≡ seen → IsCursor inside → Performs {T = Unit {0}} {E = E} (Ok tt) (place_plan inside full) old new → now ≡ emptied inside
    → CheckpointRests seen full now old new
checkpoint_rests-as {E} inside seen full now old new same is performs empty =
    subst (λ (c : Cursor). CheckpointRests c full now old new) same (checkpoint_rests {T = Unit {0}} {E = E} (Ok tt) inside full now old new is performs empty)
