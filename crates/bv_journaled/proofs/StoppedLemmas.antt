-- What reads give where a plan of the journal was stopped before its end. Each event of it so far was
-- Ok, so what was written last is what reads give, and no entry is there by chance.
--
-- The disk is taken as one that was opened with what reads gave when the plan began.
use Rattle.std.proofs.Common.{◌≡◌, ◌<◌, ◌≤◌, ℕ, zero, suc, ◌+◌, ◌%◌, ◌^◌, List, [], ◌∷◌, ◌++◌, length, take, set, true, false, Option, Some, None, refl, ap, sym, ◌∙◌, subst, inl, inr, arith}
use Rattle.std.proofs.lemmas.List.{append-nil, length-take, get_or-take}
use Rattle.spec_disk.specs.declared.event.Event.{Event}
use Rattle.spec_disk.specs.declared.event.Event.TheVariants.{Write, Sync}
use Rattle.spec_disk.specs.Disk.{Blocks, block, now_after, last_after}
use Rattle.spec_disk.proofs.EventLemmas.{now_after-append}
use Rattle.spec_disk.proofs.ImageLemmas.{image-now}
use Rattle.spec_record.specs.declared.geometry.Geometry.{Geometry}
use Rattle.spec_record.specs.declared.info.Info.{Info}
use Rattle.spec_record.specs.Geometry.{meta_blocks, ring_slots, slot_at}
use Rattle.spec_record.specs.Places.{begins_with_magic}
use Rattle.spec_record.specs.Entry.{Entry}
use Rattle.spec_record.specs.EntryBlocks.{entry_blocks}
use Rattle.spec_record.proofs.SpelledEntry.{length-entry_blocks}
use Rattle.spec_image.specs.Chance.{NoChance}
use Rattle.spec_image.specs.Replay.{is_stale_block}
use Rattle.bv_device.specs.Told.{Disk, disk_with, now_of}
use Rattle.bv_device.specs.Plan.{IsPlan, failed_event, CutShort}
use Rattle.bv_journal.specs.Stays.{IsFresh}
use Rattle.bv_journal.specs.Holds.{HoldsMeta, HoldsOneOf, entries_of, with_entry}
use Rattle.bv_journal.specs.Plans.{ring_writes, checkpoint_plan}
use Rattle.bv_journal.specs.Rests.{slot_behind, number_behind, Journalled, Rests, IsNext, AtRest}
use Rattle.bv_journal.specs.Stops.{Stops}
use Rattle.bv_journal.proofs.AdvanceLemmas.{Journalled-holds}
use Rattle.bv_journal.proofs.AppendLemmas.{Rests-other, walk_all}
use Rattle.bv_journal.proofs.CheckpointLemmas.{checkpoint-stops}
use Rattle.bv_journal.proofs.DiskLemmas.{synced-sync}
use Rattle.bv_journal.proofs.FreshLemmas.{entry_fresh, entry_plain}
use Rattle.bv_journal.proofs.HoldLemmas.{few_meta}
use Rattle.bv_journal.proofs.RestLemmas.{absent, held}
use Rattle.bv_journal.proofs.SyncLemmas.{Rests-opened, at_rest-sync}
use Rattle.bv_journaled.proofs.StopLemmas.{ring_plan, whole_checkpoint}

-- ---- events that were all Ok

last_is_now : (base : Blocks) (p : List Event) → IsPlan p → last_after base p ≡ now_after base p
last_is_now base [] planned = refl
last_is_now base (Write at bytes true ∷ p) planned = last_is_now (set base at bytes) p planned
last_is_now base (Write at bytes false ∷ p) planned = absurd planned
last_is_now base (Sync true ∷ p) planned = last_is_now base p planned
last_is_now base (Sync false ∷ p) planned = absurd planned

-- what reads give has no entry by chance
plan_fair : (base : Blocks) (p : List Event) → IsPlan p → NoChance base p (now_after base p)
plan_fair base p planned s slot e is accepted =
    inr (λ k lt. ap (λ (x : Blocks). block x (slot_at s.geometry ((slot + k) % ring_slots s.geometry))) (sym (last_is_now base p planned)))

plan_front : (p : List Event) (k : ℕ) → IsPlan p → IsPlan (take k p)
plan_front p zero planned = tt
plan_front [] (suc k) planned = tt
plan_front (Write at bytes true ∷ p) (suc k) planned = plan_front p k planned
plan_front (Write at bytes false ∷ p) (suc k) planned = absurd planned
plan_front (Sync true ∷ p) (suc k) planned = plan_front p k planned
plan_front (Sync false ∷ p) (suc k) planned = absurd planned

-- a disk that was opened with these blocks
abbrev opened_at : Blocks → Disk
opened_at base = record { base = base; trace = [] }

-- what the stops of a plan leave, reads give there
stop_now : (base : Blocks) (plan : List Event) (P : Blocks → Type 0) (k : ℕ) → IsPlan plan → Stops (opened_at base) plan P → k ≤ length plan → P (now_after base (take k plan))
stop_now base plan P k planned stops le =
    stops k le (now_after base (take k plan)) (image-now base (take k plan)) (plan_fair base (take k plan) (plan_front plan k planned))

-- ---- a run that was cut short

failed_now : (x : Blocks) (e : Event) → now_after x (failed_event e ∷ []) ≡ x
failed_now x (Write at bytes ok) = refl
failed_now x (Sync ok) = refl

one_disk : (a b : Disk) → Some a ≡ Some b → a ≡ b
one_disk a b e = cc

-- reads give what they do after some events of the plan, but not all
abbrev pub Short : List Event → Blocks → Blocks → Type 0
Short plan before now = (k : ℕ) × (k < length plan) × (now ≡ now_after before (take k plan))

pub cut_now : (plan : List Event) (d new : Disk) → CutShort plan (Some d) (Some new) → Short plan (now_of d) (now_of new)
cut_now [] d new cut = absurd cut
cut_now (e ∷ plan) d new cut =
    elim cut [
      | inl same ↦ (0, omega arith, ap (λ (x : Disk). now_of x) (one_disk new d same))
      | inr more ↦ elim more [
        | inl f ↦ (0, omega arith, ap (λ (x : Disk). now_of x) (one_disk new (disk_with d (failed_event e ∷ [])) f) ∙ now_after-append d.base d.trace (failed_event e ∷ []) ∙ failed_now (now_of d) e)
        | inr on ↦
            let rest : Short plan (now_of (disk_with d (e ∷ []))) (now_of new) = cut_now plan (disk_with d (e ∷ [])) new on in
            let lt : rest.0 < length plan = rest.1 in (
              suc rest.0,
              omega (arith, lt),
              rest.2 ∙ ap (λ (x : Blocks). now_after x (take rest.0 plan)) (now_after-append d.base d.trace (e ∷ [])) ∙ sym (now_after-append (now_of d) (e ∷ []) (take rest.0 plan)),
            )
      ]
    ]

-- ---- a journal at rest

module _ (g : Geometry) (i : Info) (es : List Entry) (more : Option Entry) (meta : Blocks) (d : Disk) (a : AtRest g i es more meta d) where
  abbrev all : List Entry
  all = es ++ entries_of more

  abbrev full : Blocks
  full = with_entry more meta

  -- it is at rest, too, on a disk that is opened with what reads give
  anew : AtRest g i all None full (opened_at (now_of d))
  anew =
      let r = (at_rest-sync g i es more meta d a).rests in
      let durable : Journalled g i all full (now_of d) = subst (Journalled g i all full) (synced-sync d) r.durable in
      record {
        rests = Rests-opened g i all full (opened_at (now_of d)) (record { durable = durable; quiet = λ b lt. refl; last = λ s lt. refl }) (subst (IsFresh g (number_behind i all)) (synced-sync d) r.fresh);
        next = tt;
      }

  pub now_whole : HoldsMeta g full (now_of d)
  now_whole = Journalled-holds g i all full (now_of d) anew.rests.durable

  -- after some events of a checkpoint, or all
  pub checkpoint_now : (next : Info) → next.start ≡ slot_behind g i all → next.number ≡ number_behind i all → next.number ≤ 2 ^ 62 → (k : ℕ) → k ≤ length (checkpoint_plan g full next)
      → HoldsMeta g full (now_after (now_of d) (take k (checkpoint_plan g full next)))
  checkpoint_now next start number most k le =
      let nil : all ++ [] ≡ all = append-nil all in
      let stops : Stops (opened_at (now_of d)) (checkpoint_plan g full next) (HoldsOneOf g full full) =
      checkpoint-stops g i next all None full (opened_at (now_of d)) anew (start ∙ ap (slot_behind g i) (sym nil)) (number ∙ ap (number_behind i) (sym nil)) most in
      elim (stop_now (now_of d) (checkpoint_plan g full next) (HoldsOneOf g full full) k (whole_checkpoint g full next) stops le) [ inl h ↦ h | inr h ↦ h ]

-- ---- an entry of which not all blocks were written

ring_front : (g : Geometry) (slot m : ℕ) (blocks : Blocks) → ring_writes g slot (take m blocks) ≡ take m (ring_writes g slot blocks)
ring_front g slot zero blocks = refl
ring_front g slot (suc m) [] = refl
ring_front g slot (suc m) (bytes ∷ rest) = ap (λ (p : List Event). Write (slot_at g (slot % ring_slots g)) bytes true ∷ p) (ring_front g (slot + 1) m rest)

pub length-ring_writes : (g : Geometry) (slot : ℕ) (blocks : Blocks) → length (ring_writes g slot blocks) ≡ length blocks
length-ring_writes g slot [] = refl
length-ring_writes g slot (bytes ∷ rest) = omega (arith, length-ring_writes g (slot + 1) rest)

module _ (g : Geometry) (i : Info) (es : List Entry) (meta : Blocks) (d : Disk) (e : Entry) (a : AtRest g i es None meta d) (next : IsNext g i es meta e) (m : ℕ) (part : m < length (entry_blocks e)) where
  abbrev some : Blocks
  some = take m (entry_blocks e)

  abbrev n : ℕ
  n = length (take m (entry_blocks e))

  abbrev there : Disk
  there = disk_with (opened_at (now_of d)) (ring_writes g (slot_behind g i es) (take m (entry_blocks e)))

  few_are : n ≡ m
  few_are = omega (arith, length-take m (entry_blocks e), part)

  same : (k : ℕ) → k < n → block some k ≡ block (entry_blocks e) k
  same k lt = get_or-take m (entry_blocks e) k [] (omega (arith, lt, few_are))

  rest_anew : AtRest g i es None meta (opened_at (now_of d))
  rest_anew = subst (λ (l : List Entry). AtRest g i l None meta (opened_at (now_of d))) (append-nil es) (anew g i es None meta d a)

  ran : Rests g i es meta some n there
  ran =
      (walk_all g i es meta some (λ j. Unit {0}) (λ k x le r j image fair. tt) (opened_at (now_of d))
      (omega (arith, next.fits, length-entry_blocks e, few_are, part)) (Rests-other g i es meta [] some (opened_at (now_of d)) rest_anew.rests)).1

  few : meta_blocks g ≤ 679
  few = few_meta g ran.durable.lawful

  later : (k : ℕ) → k < n → is_stale_block (number_behind i es + 1) (block some k) ≡ false
  later k lt =
      ap (is_stale_block (number_behind i es + 1)) (same k lt)
      ∙ subst (λ (x : ℕ). is_stale_block (x + 1) (block (entry_blocks e) k) ≡ false) next.number_is (entry_fresh (meta_blocks g) e few next.lawful k (omega (arith, lt, few_are, part)))

  plain : (k : ℕ) → 1 ≤ k → k < n → begins_with_magic (block some k) ≡ false
  plain k from lt = ap begins_with_magic (same k lt) ∙ entry_plain (meta_blocks g) e few next.lawful k from (omega (arith, lt, few_are, part))

  part_now : HoldsMeta g meta (now_of there)
  part_now =
      elim (held g i es meta some n there ran later (now_of there) (image-now there.base there.trace) (plan_fair there.base there.trace (ring_plan g (slot_behind g i es) some))) [
        | inl old ↦ old.holds
        | inr (f, last, added) ↦
            let none = absent g i es meta some n there ran plain in
            absurd (cc (none, last))
      ]

  pub append_now : HoldsMeta g meta (now_after (now_of d) (take m (ring_writes g (slot_behind g i es) (entry_blocks e))))
  append_now = subst (λ (p : List Event). HoldsMeta g meta (now_after (now_of d) p)) (ring_front g (slot_behind g i es) m (entry_blocks e)) part_now
