-- The superblock of a recovered volume gets version 2: a stop leaves the one or the other, and each has
-- the blobs.
use Rattle.std.proofs.Common.{◌≡◌, ◌≢◌, ◌≤◌, ◌<◌, ℕ, zero, suc, List, [], ◌∷◌, ◌++◌, length, Bool, true, false, cond, eqb, eq-eqb, refl, ap, sym, ◌∙◌, subst, inl, inr, arith}
use Rattle.std.proofs.lemmas.List.{append_assoc, append-nil, get_or-set_same}
use Rattle.std.proofs.lemmas.Bool.Decides.{eqb_tells}
use Rattle.std.specs.Option.{is_some}
use Rattle.spec_disk.specs.declared.event.Event.{Event}
use Rattle.spec_disk.specs.declared.event.Event.TheVariants.{Write, Sync}
use Rattle.spec_disk.specs.Disk.{Blocks, block, sector, now_after, synced_after}
use Rattle.spec_disk.specs.Images.{pending, IsSettled}
use Rattle.spec_disk.proofs.EventLemmas.{now_after-append, length-now_after, synced_after-push_sync}
use Rattle.spec_disk.proofs.ImageLemmas.{image-now, image-quiet, image-settled, IsSettled-push_sync, same_blocks}
use Rattle.spec_disk.proofs.BlockLemmas.{image-one_sector}
use Rattle.spec_record.specs.declared.geometry.Geometry.{Geometry}
use Rattle.spec_record.specs.declared.superblock.Super.{Super}
use Rattle.spec_record.specs.Geometry.{total_blocks}
use Rattle.spec_record.specs.Superblock.{super_bytes}
use Rattle.spec_image.specs.Leaves.{Leaves}
use Rattle.spec_image.specs.Metadata.{metadata_in}
use Rattle.spec_image.specs.Volume.{HasGeometry}
use Rattle.spec_image.specs.WellFormed.{is_well_formed}
use Rattle.spec_meta.specs.Blocks.{metadata_at}
use Rattle.spec_meta.proofs.SurveyLemmas.{survey_is_clean}
use Rattle.bv_device.specs.Told.{Disk, disk_with}
use Rattle.bv_device.specs.Plan.{a_write, a_sync}
use Rattle.bv_device.proofs.PlanLemmas.{IsPlan-append}
use Rattle.bv_journal.specs.Rests.{synced, Journalled}
use Rattle.bv_journal.specs.Stops.{Stops}
use Rattle.bv_journal.proofs.DiskLemmas.{synced-write, pending-write_first, pending-write_other}
use Rattle.bv_journal.proofs.HoldLemmas.{head_geometry, info_read, unnamed}
use Rattle.bv_journal.proofs.SectorLemmas.{super-other_sectors}
use Rattle.bv_journal.proofs.StopLemmas.{Stops-append, Stops-cons, Stops-one}
use Rattle.spec_upgrade.specs.Upgraded.{newest, newest_super, IsOlder, upgraded}
use Rattle.spec_upgrade.proofs.UpgradedLemmas.{behind, upgraded_blobs, upgraded_whole, upgraded_geometry}
use Rattle.bv_mount.specs.declared.inspected.Inspected.{Inspected}
use Rattle.bv_mount.specs.Inspects.{inspection, IsInspected}
use Rattle.bv_mount.specs.Recovers.{plan_for, next_for, HasBlobsOf}
use Rattle.bv_mount.specs.Upgrades.{super_plan, found_super, upgrade_plan}
use Rattle.bv_mount.proofs.KeepLemmas.{plan_durable, plan_settles}
use Rattle.bv_mount.proofs.RunLemmas.{KeepsBlobs, recovery_keeps, planned}

-- images that agree at block 0 and behind it
from_first : (x y : Blocks) → length x ≡ length y → block x 0 ≡ block y 0 → ((b : ℕ) → 1 ≤ b → block x b ≡ block y b) → x ≡ y
from_first x y long first rest = same_blocks x y long by_block where
  by_block : (b : ℕ) → block x b ≡ block y b
  by_block zero = first
  by_block (suc b) = rest (suc b) (omega arith)

-- the plan of an upgrade keeps the blobs, and at its end the volume has version 2
pub record KeepsUpgraded (i : Inspected) (base : Blocks) : Type 0 where
  pub keeps : KeepsBlobs base (upgrade_plan (inspection i))
  pub newest : HasGeometry (now_after base (upgrade_plan (inspection i))) (newest i.geometry)

module _ (i : Inspected) (base : Blocks) (is : IsInspected base i) (room : total_blocks i.geometry ≤ length base) where
  abbrev plan : List Event
  plan = plan_for (inspection i)

  abbrev end : Blocks
  end = now_after base plan

  durable : Journalled i.geometry (next_for (inspection i)) [] i.meta.blocks end
  durable = plan_durable i base is room

  -- once the volume is recovered
  recovered : HasBlobsOf base end
  recovered = (recovery_keeps i base is room).now

  module _ (one : i.geometry.version ≡ 1) where
    abbrev s : Super
    s = found_super (inspection i)

    abbrev bytes : List ℕ
    bytes = super_bytes (newest_super s)

    head_bytes : block end 0 ≡ super_bytes s
    head_bytes = sym (unnamed i.geometry (next_for (inspection i)) [] i.meta.blocks end durable 0 (omega arith) refl) ∙ i.lawful.left.bytes_are

    older : IsOlder s end
    older = record {
      version = one;
      head = record { lawful = i.lawful.left.lawful; room = durable.room; bytes_are = head_bytes };
      read = ap is_some (info_read i.geometry (next_for (inspection i)) end durable.lawful durable.info);
      empty = durable.entries;
      well = ap (λ (bs : Blocks). is_well_formed (metadata_in s bs)) durable.after ∙ (survey_is_clean (metadata_at i.geometry i.meta.blocks)).0 i.lawful.well;
    }

    renewed : HasBlobsOf base (upgraded s end)
    renewed = record {
      map = upgraded_blobs s end older ∙ recovered.map;
      whole = λ root whole. upgraded_whole s end older root (recovered.whole root whole);
    }

    -- ---- the write and its sync

    abbrev d : Disk
    d = record { base = base; trace = plan }

    abbrev more : Disk
    more = disk_with d (a_write 0 bytes)

    settled : IsSettled plan
    settled = plan_settles [] (inspection i) (λ b. refl)

    synced_end : synced d ≡ end
    synced_end = sym (image-settled base plan end settled (image-now base plan))

    Leaves-before : Leaves base plan (HasBlobsOf base)
    Leaves-before j image fair = subst (HasBlobsOf base) (sym (image-settled base plan j settled image ∙ synced_end)) recovered

    -- with the write pending: the superblock as it was, or with version 2
    Leaves-written : Leaves base (plan ++ a_write 0 bytes) (HasBlobsOf base)
    Leaves-written j image fair =
        let there : synced more ≡ end = synced-write d 0 bytes ∙ synced_end in
        let long : length j ≡ length end = image.as_long ∙ sym (length-now_after base plan) in
        let once : pending more.trace 0 ≡ bytes ∷ [] = pending-write_first d 0 bytes (settled 0) in
        let kept : (b : ℕ) → 1 ≤ b → block j b ≡ block end b = λ b pos.
        image-quiet base more.trace j b image (pending-write_other d 0 bytes b (λ e. absurd (omega (arith, e, pos))) ∙ settled b) ∙ ap (λ (x : Blocks). block x b) there in
        let others : (t : ℕ) → t ≢ 0 → sector bytes t ≡ sector (block (synced more) 0) t = λ t ne.
        super-other_sectors (newest_super s) s t (omega (arith, ne)) ∙ sym (ap (λ (b : List ℕ). sector b t) (ap (λ (x : Blocks). block x 0) there ∙ head_bytes)) in
        elim (image-one_sector base more.trace j 0 0 bytes once others image) [
          | inl old ↦ subst (HasBlobsOf base) (sym (from_first j end long (old ∙ ap (λ (x : Blocks). block x 0) there) kept)) recovered
          | inr new ↦ subst (HasBlobsOf base) (sym (from_first j (upgraded s end) (long ∙ sym long_new) (new ∙ sym head_new) (λ b pos. kept b pos ∙ sym (behind s end older b pos)))) renewed
        ]
      where
        some_room : 0 < length end
        some_room = omega (arith, durable.room)

        long_new : length (upgraded s end) ≡ length end
        long_new = length-now_after end (a_write 0 bytes)

        head_new : block (upgraded s end) 0 ≡ bytes
        head_new = get_or-set_same end 0 bytes [] some_room

    now_new : now_after base (plan ++ a_write 0 bytes) ≡ upgraded s end
    now_new = now_after-append base plan (a_write 0 bytes)

    Leaves-synced : Leaves base ((plan ++ a_write 0 bytes) ++ a_sync) (HasBlobsOf base)
    Leaves-synced j image fair =
        let only : j ≡ synced_after base ((plan ++ a_write 0 bytes) ++ a_sync) = image-settled base ((plan ++ a_write 0 bytes) ++ a_sync) j (IsSettled-push_sync (plan ++ a_write 0 bytes)) image in
        subst (HasBlobsOf base) (sym (only ∙ synced_after-push_sync base (plan ++ a_write 0 bytes) ∙ now_new)) renewed

    abbrev whole : List Event
    whole = plan ++ (a_write 0 bytes ++ a_sync)

    write_stops : Stops d (a_write 0 bytes ++ a_sync) (HasBlobsOf base)
    write_stops = Stops-cons d (Write 0 bytes true) a_sync (HasBlobsOf base) Leaves-before (Stops-one more (Sync true) (HasBlobsOf base) Leaves-written Leaves-synced)

    now_end : now_after base whole ≡ upgraded s end
    now_end = now_after-append base plan (a_write 0 bytes ++ a_sync)

    renewal_keeps : KeepsBlobs base whole
    renewal_keeps = record {
      planned = IsPlan-append plan (a_write 0 bytes ++ a_sync) (planned (inspection i)) tt;
      stops = Stops-append (record { base = base; trace = [] }) plan (a_write 0 bytes ++ a_sync) (HasBlobsOf base) (recovery_keeps i base is room).stops write_stops;
      now = subst (HasBlobsOf base) (sym now_end) renewed;
    }

    from_old : KeepsUpgraded i base
    from_old =
        let plan_is : upgrade_plan (inspection i) ≡ whole = ap (λ (t : Bool). plan ++ cond t (a_write 0 bytes ++ a_sync) []) (eq-eqb i.geometry.version 1 one) in
        record {
          keeps = subst (KeepsBlobs base) (sym plan_is) renewal_keeps;
          newest = subst (λ (p : List Event). HasGeometry (now_after base p) (newest i.geometry)) (sym plan_is)
              (subst (λ (x : Blocks). HasGeometry x (newest i.geometry)) (sym now_end) (upgraded_geometry s end older));
        }

  -- a volume that has version 2 is recovered alone
  from_new : eqb i.geometry.version 1 ≡ false → i.geometry.version ≢ 1 → KeepsUpgraded i base
  from_new test other =
      let plan_is : upgrade_plan (inspection i) ≡ plan = ap (λ (t : Bool). plan ++ cond t (a_write 0 (super_bytes (newest_super (found_super (inspection i)))) ++ a_sync) []) test ∙ append-nil plan in
      let two : i.geometry.version ≡ 2 = omega (arith, other, i.lawful.limits.version.from_low, i.lawful.limits.version.to_high) in
      let same : i.geometry ≡ newest i.geometry = λ k. record { blocks = i.geometry.blocks; nodes = i.geometry.nodes; journal = i.geometry.journal; version = two k } in
      record {
        keeps = subst (KeepsBlobs base) (sym plan_is) (recovery_keeps i base is room);
        newest = subst (λ (p : List Event). HasGeometry (now_after base p) (newest i.geometry)) (sym plan_is)
            (subst (λ (g : Geometry). HasGeometry end g) same (head_geometry i.geometry end durable.head durable.room));
      }

  pub upgrade_keeps : KeepsUpgraded i base
  upgrade_keeps = elim (eqb_tells i.geometry.version 1) [ inl t ↦ from_old t.1 | inr f ↦ from_new f.0 f.1 ]

-- a settled disk is settled at its end
pub upgrade_settles : (i : Inspected) (trace : List Event) → IsSettled trace → IsSettled (trace ++ upgrade_plan (inspection i))
upgrade_settles i trace settled = by_test (eqb i.geometry.version 1) where
  by_test : (t : Bool) → IsSettled (trace ++ (plan_for (inspection i) ++ cond t (super_plan (newest_super (found_super (inspection i)))) []))
  by_test true =
      let front : List Event = plan_for (inspection i) in
      let write : List Event = a_write 0 (super_bytes (newest_super (found_super (inspection i)))) in
      subst IsSettled (append_assoc trace (front ++ write) a_sync ∙ ap (λ (p : List Event). trace ++ p) (append_assoc front write a_sync)) (IsSettled-push_sync (trace ++ (front ++ write)))
  by_test false = subst (λ (p : List Event). IsSettled (trace ++ p)) (sym (append-nil (plan_for (inspection i)))) (plan_settles trace (inspection i) settled)
