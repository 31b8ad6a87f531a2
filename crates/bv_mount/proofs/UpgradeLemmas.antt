-- How an upgrade ends: refused, stopped by a call that failed, or done.
use Rattle.std.proofs.Common.{◌≡◌, ◌≤◌, inl, inr, ℕ, length, None, Result, Ok, Err, IfSome, sym, subst}
use Rattle.std.specs.Prelude.{IsErrAnd}
use Rattle.spec_record.specs.Geometry.{total_blocks}
use Rattle.spec_image.specs.Volume.{HasGeometry}
use Rattle.spec_disk.specs.Disk.{now_after}
use Rattle.bv_device.specs.Seen.{Seen, Performs}
use Rattle.bv_device.specs.Reads.{Reads, Sees}
use Rattle.spec_inspect.specs.declared.mount_fault.MountFault.{MountFault}
use Rattle.spec_inspect.specs.declared.mount_fault.MountFault.TheVariants as mount
use Rattle.spec_inspect.specs.Inspection.{inspect_of}
use Rattle.spec_upgrade.specs.Upgraded.{newest}
use Rattle.bv_mount.specs.declared.inspected.Inspected.{Inspected}
use Rattle.bv_mount.specs.Reports.{mount_reported_by}
use Rattle.bv_mount.specs.Inspects.{inspection, IsInspected, RefusesMount}
use Rattle.bv_mount.specs.Upgrades.{upgrade_plan, Upgrades}
use Rattle.bv_mount.proofs.RunLemmas.{KeepsBlobs, seen_inspected, told_end}
use Rattle.bv_mount.proofs.RecoverLemmas.{err_is, refused, plan_done, plan_cut}
use Rattle.bv_mount.proofs.NewestLemmas.{upgrade_keeps, upgrade_settles}

-- the inspection refused
pub upgrade_refused : (r : Result ℕ MountFault) (f : MountFault) (old new : Seen) → IsErrAnd r (λ y. y ≡ f) → Reads (mount_reported_by f) old new (λ j. RefusesMount (inspect_of j) f) → Upgrades r old new
upgrade_refused r f old new stopped reads = inl (refused r f old new stopped reads)

module _ (i : Inspected) (old mid new : Seen) (law : IfSome old.told (λ d. length d.base ≡ old.block_count)) (total : total_blocks i.geometry ≤ old.block_count) (reads : Reads None old mid (λ j. IsInspected j i)) where
  upgrade_seen : Sees old (λ j. KeepsBlobs j (upgrade_plan (inspection i)))
  upgrade_seen = seen_inspected i old (λ j. KeepsBlobs j (upgrade_plan (inspection i))) law total reads.now (λ j is room. (upgrade_keeps i j is room).keeps)

  newest_seen : Sees old (λ j. HasGeometry (now_after j (upgrade_plan (inspection i))) (newest i.geometry))
  newest_seen = seen_inspected i old (λ j. HasGeometry (now_after j (upgrade_plan (inspection i))) (newest i.geometry)) law total reads.now (λ j is room. (upgrade_keeps i j is room).newest)

  pub upgrade_done : (count : ℕ) → count ≡ length i.replay.entries.items → Performs {T = Unit {0}} {E = MountFault} (Ok tt) (upgrade_plan (inspection i)) mid new → Upgrades (Ok count) old new
  upgrade_done count is performs =
      let run = plan_done (upgrade_plan (inspection i)) i old mid new reads upgrade_seen (upgrade_settles i) count is performs in
      inr (record {
        found = inspection i;
        run = run;
        newest = told_end old new (Ok count) (upgrade_plan (inspection i)) upgrade_seen (λ j. HasGeometry j (newest i.geometry)) newest_seen run.performs.plan;
      })

  pub upgrade_cut : (r : Result ℕ MountFault) (f : MountFault) → IsErrAnd r (λ y. y ≡ f) → f ≡ mount.DeviceFault new.fault_count → Performs {T = Unit {0}} {E = MountFault} (Err f) (upgrade_plan (inspection i)) mid new
      → Upgrades r old new
  upgrade_cut r f stopped is performs =
      let cut : Upgrades (Err f) old new = inr (record { found = inspection i; run = plan_cut (upgrade_plan (inspection i)) i old mid new reads upgrade_seen f is performs; newest = tt }) in
      subst (λ (x : Result ℕ MountFault). Upgrades x old new) (sym (err_is r f stopped)) cut
