-- A run of a plan keeps the blobs: whatever stops it, and whatever the device tells.
use Rattle.std.proofs.Common.{◌≡◌, ◌≤◌, inl, inr, ℕ, zero, suc, ◌+◌, List, [], ◌∷◌, ◌++◌, length, take, Bool, true, false, cond, Option, Some, None, Result, Ok, Err, IfSome, refl, ap, sym, ◌∙◌, subst, arith}
use Rattle.spec_disk.specs.declared.event.Event.{Event}
use Rattle.spec_disk.specs.Disk.{Blocks, now_after}
use Rattle.spec_disk.specs.Images.{IsImage, IsSettled}
use Rattle.spec_record.specs.declared.geometry.Geometry.{Geometry}
use Rattle.spec_record.specs.Geometry.{meta_blocks, total_blocks}
use Rattle.spec_image.specs.After.{payloads_of, last_naming}
use Rattle.spec_image.specs.Chance.{NoChance}
use Rattle.spec_image.specs.Leaves.{Leaves}
use Rattle.spec_image.specs.Volume.{metadata_of}
use Rattle.bv_device.specs.Told.{Disk, now_of, disk_with}
use Rattle.bv_device.specs.Plan.{a_sync, IsPlan, with_events, failed_event, CutShort, Follows}
use Rattle.bv_device.specs.Reads.{ReadsRight, Sees}
use Rattle.bv_device.specs.Seen.{Seen}
use Rattle.bv_device.proofs.PlanLemmas.{disk_with-nil, disk_with-append, with_events-some, IsPlan-append}
use Rattle.bv_journal.specs.Plans.{info_plan, one_in_place, in_place, scrub, is_clean, recovery}
use Rattle.bv_journal.specs.Stops.{RanFair}
use Rattle.bv_journal.proofs.StopLemmas.{RanFair-run}
use Rattle.spec_inspect.specs.declared.mount_fault.MountFault.{MountFault}
use Rattle.spec_inspect.proofs.OutcomeLemmas.{volume_or_none}
use Rattle.spec_inspect.specs.Inspection.{Inspection}
use Rattle.bv_mount.specs.declared.inspected.Inspected.{Inspected}
use Rattle.bv_mount.specs.Inspects.{inspection, IsInspected}
use Rattle.bv_mount.specs.Recovers.{plan_for, next_for, HasBlobsOf, KeepsVolume, KeepsNow, Settles}
use Rattle.bv_mount.proofs.StayLemmas.{settled_right}
use Rattle.bv_mount.proofs.KeepLemmas.{meta_geometry, plan_keeps, plan_now}
use Rattle.spec_disk.proofs.EventLemmas.{length-now_after, now_after-append}

-- ---- the plan

planned-in_place : (payloads : List (ℕ × List ℕ)) (t count : ℕ) → IsPlan (in_place payloads t count)
planned-in_place payloads t zero = tt
planned-in_place payloads t (suc count) = IsPlan-append (one_in_place t (last_naming t payloads)) (in_place payloads (t + 1) count) (one (last_naming t payloads)) (planned-in_place payloads (t + 1) count) where
  one : (o : Option (List ℕ)) → IsPlan (one_in_place t o)
  one None = tt
  one (Some bytes) = tt

planned-scrub : (g : Geometry) (slots : List ℕ) → IsPlan (scrub g slots)
planned-scrub g [] = tt
planned-scrub g (s ∷ slots) = planned-scrub g slots

pub planned : (x : Inspection) → IsPlan (plan_for x)
planned x = by_clean (is_clean x.replay.entries x.replay.stale) where
  g : Geometry
  g = x.geometry

  by_clean : (t : Bool) → IsPlan (cond t [] (recovery x.geometry x.replay.entries x.replay.stale (next_for x)))
  by_clean true = tt
  by_clean false =
      IsPlan-append (in_place (payloads_of x.replay.entries) 0 (meta_blocks x.geometry)) (a_sync ++ (scrub x.geometry x.replay.stale ++ (a_sync ++ info_plan x.geometry (next_for x))))
      (planned-in_place (payloads_of x.replay.entries) 0 (meta_blocks x.geometry))
      (IsPlan-append (scrub x.geometry x.replay.stale) (a_sync ++ info_plan x.geometry (next_for x)) (planned-scrub x.geometry x.replay.stale) tt)

-- what cut a plan short on one disk does on any other
cut_moves : (plan : List Event) (d e : Disk) (new : Option Disk) → CutShort plan (Some d) new → (events : List Event) × (new ≡ Some (disk_with d events)) × CutShort plan (Some e) (Some (disk_with e events))
cut_moves [] d e new cut = absurd cut
cut_moves (x ∷ plan) d e new cut = elim cut [
  | inl none ↦ ([], none ∙ ap (λ (y : Disk). Some y) (sym (disk_with-nil d)), inl (ap (λ (y : Disk). Some y) (disk_with-nil e)))
  | inr more ↦ elim more [
    | inl f ↦ (failed_event x ∷ [], f, inr (inl refl))
    | inr later ↦
        let rest = cut_moves plan (disk_with d (x ∷ [])) (disk_with e (x ∷ [])) new later in (
          x ∷ rest.0,
          rest.1 ∙ ap (λ (y : Disk). Some y) (disk_with-append d (x ∷ []) rest.0),
          inr (inr (subst (λ (y : Disk). CutShort plan (Some (disk_with e (x ∷ []))) (Some y)) (disk_with-append e (x ∷ []) rest.0) rest.2)),
        )
  ]
]

told_same : (a b : Disk) → Some a ≡ Some b → a ≡ b
told_same a b e = cc

-- ---- what is proved of a plan, over the blocks that it begins with

-- each stop of it leaves the blobs; its end has them, and is settled where its beginning was
pub record KeepsBlobs (base : Blocks) (plan : List Event) : Type 0 where
  pub planned : IsPlan plan
  pub stops : (k : ℕ) → k ≤ length plan → Leaves base (take k plan) (HasBlobsOf base)
  pub now : HasBlobsOf base (now_after base plan)

module _ (i : Inspected) (base : Blocks) (is : IsInspected base i) (room : total_blocks i.geometry ≤ length base) where
  geometry : IfSome (metadata_of base) (λ m. m.super.geometry ≡ i.geometry)
  geometry = meta_geometry base (inspection i) is.is (volume_or_none base)

  pub recovery_keeps : KeepsBlobs base (plan_for (inspection i))
  recovery_keeps = record {
    planned = planned (inspection i);
    stops = plan_keeps i base is room geometry;
    now = plan_now i base is room geometry;
  }

-- ---- a run of it on a disk

module _ (d : Disk) (plan : List Event) (keeps : KeepsBlobs (now_of d) plan) where
  abbrev now : Disk
  now = record { base = now_of d; trace = [] }

  ran_keeps : (events : List Event) → RanFair now (Some (disk_with now events)) plan → (k : ℕ) → k ≤ length events → Leaves (now_of d) (take k events) (HasBlobsOf (now_of d))
  ran_keeps events ran k le j image fair =
      let same : events ≡ ran.events = ap (λ (x : Disk). x.trace) (told_same (disk_with now events) (disk_with now ran.events) ran.is) in
      let left = ran.stops k j (subst (λ (l : List Event). k ≤ length l) same le) (subst (λ (l : List Event). IsImage (now_of d) (take k l) j) same image) (subst (λ (l : List Event). NoChance (now_of d) (take k l) j) same fair) in
      keeps.stops left.count left.planned j left.left left.fair

  pub run_keeps : (r : Result ℕ MountFault) (new : Option Disk) → Follows r plan (Some d) new → KeepsVolume d new
  run_keeps (Ok count) new follows = record { events = plan; is = follows ∙ with_events-some d plan; stops = keeps.stops }
  run_keeps (Err f) new follows =
      let cut = cut_moves plan d now new follows in
      record {
        events = cut.0;
        is = cut.1;
        stops = ran_keeps cut.0 (RanFair-run {T = ℕ} {E = MountFault} (Err f) now plan (Some (disk_with now cut.0)) keeps.planned cut.2);
      }

  -- what holds of Now at the plan's end holds of Now then
  pub run_end : (P : Blocks → Type 0) (new : Option Disk) → new ≡ with_events (Some d) plan → P (now_after (now_of d) plan) → IfSome new (λ e. P (now_of e))
  run_end P new follows holds =
      subst (λ (o : Option Disk). IfSome o (λ e. P (now_of e))) (sym (follows ∙ with_events-some d plan))
      (subst P (sym (now_after-append d.base d.trace plan)) holds)

-- ---- what a device told

module _ (old new : Seen) (r : Result ℕ MountFault) (plan : List Event) (sees : Sees old (λ j. KeepsBlobs j plan)) where
  pub told_keeps : Follows r plan old.told new.told → IfSome old.told (λ d. IsSettled d.trace → KeepsVolume d new.told)
  told_keeps follows = by_told old.told sees follows where
    by_told : (o : Option Disk) → IfSome o (λ d. ReadsRight d → KeepsBlobs (now_of d) plan) → Follows r plan o new.told → IfSome o (λ d. IsSettled d.trace → KeepsVolume d new.told)
    by_told None keeps follows = tt
    by_told (Some d) keeps follows = λ settled. run_keeps d plan (keeps (λ b. settled_right d.trace b settled)) r new.told follows

  -- what is seen of the blocks before holds of Now at the plan's end
  pub told_end : (P : Blocks → Type 0) → Sees old (λ j. P (now_after j plan)) → new.told ≡ with_events old.told plan → IfSome old.told (λ d. ReadsRight d → IfSome new.told (λ e. P (now_of e)))
  told_end P ends follows = by_told old.told ends sees follows where
    by_told : (o : Option Disk) → IfSome o (λ d. ReadsRight d → P (now_after (now_of d) plan)) → IfSome o (λ d. ReadsRight d → KeepsBlobs (now_of d) plan) → new.told ≡ with_events o plan
        → IfSome o (λ d. ReadsRight d → IfSome new.told (λ e. P (now_of e)))
    by_told None ends keeps follows = tt
    by_told (Some d) ends keeps follows = λ right. run_end d plan (keeps right) P new.told follows (ends right)

  pub told_now : new.told ≡ with_events old.told plan → IfSome old.told (λ d. ReadsRight d → KeepsNow d new.told)
  told_now follows = by_told old.told sees follows where
    by_told : (o : Option Disk) → IfSome o (λ d. ReadsRight d → KeepsBlobs (now_of d) plan) → new.told ≡ with_events o plan → IfSome o (λ d. ReadsRight d → KeepsNow d new.told)
    by_told None keeps follows = tt
    by_told (Some d) keeps follows = λ right. run_end d plan (keeps right) (HasBlobsOf (now_of d)) new.told follows (keeps right).now

  pub told_settles : ((trace : List Event) → IsSettled trace → IsSettled (trace ++ plan)) → new.told ≡ with_events old.told plan → IfSome old.told (λ d. IsSettled d.trace → Settles new.told)
  told_settles settles follows = by_told old.told follows where
    by_told : (o : Option Disk) → new.told ≡ with_events o plan → IfSome o (λ d. IsSettled d.trace → Settles new.told)
    by_told None follows = tt
    by_told (Some d) follows = λ settled. subst Settles (sym (follows ∙ with_events-some d plan)) (settles d.trace settled)

-- ---- what is seen of an inspected volume

-- what holds of the blocks of an inspected volume that has room for it
pub seen_inspected : (i : Inspected) (old : Seen) (P : Blocks → Type 0) → IfSome old.told (λ d. length d.base ≡ old.block_count) → total_blocks i.geometry ≤ old.block_count → Sees old (λ j. IsInspected j i)
    → ((j : Blocks) → IsInspected j i → total_blocks i.geometry ≤ length j → P j) → Sees old P
seen_inspected i old P law total sees holds = by_told old.told law sees where
  by_told : (o : Option Disk) → IfSome o (λ d. length d.base ≡ old.block_count) → IfSome o (λ d. ReadsRight d → IsInspected (now_of d) i) → IfSome o (λ d. ReadsRight d → P (now_of d))
  by_told None count reads = tt
  by_told (Some d) count reads = λ right. holds (now_of d) (reads right) (omega (arith, total, count, length-now_after d.base d.trace))
