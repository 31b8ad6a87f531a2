-- What `format` does to a device, from the plan that its run follows.
use Rattle.std.proofs.Common.{◌≡◌, ◌≤◌, ℕ, [], length, Option, Some, None, Result, Ok, Err, refl, ap, sym, ◌∙◌, subst, inl, arith}
use Rattle.std.specs.Prelude.{IfSome}
use Rattle.spec_disk.specs.Images.{IsSettled}
use Rattle.spec_disk.proofs.EventLemmas.{now_after-append, length-now_after}
use Rattle.spec_disk.proofs.ImageLemmas.{image-settled, image-now}
use Rattle.spec_record.specs.declared.geometry.Geometry.{Geometry}
use Rattle.spec_record.specs.Geometry.{IsGeometry, total_blocks}
use Rattle.spec_image.specs.Empty.{BeginsEmpty}
use Rattle.bv_device.specs.declared.failed.Failed.{Failed}
use Rattle.bv_device.specs.Told.{Disk, now_of, disk_with}
use Rattle.bv_device.specs.Plan.{Follows}
use Rattle.bv_device.specs.Seen.{Seen, Performs}
use Rattle.bv_device.proofs.PlanLemmas.{disk_with-nil, with_events-some}
use Rattle.bv_format.specs.declared.fault.FormatFault.{FormatFault}
use Rattle.bv_format.specs.declared.fault.FormatFault.TheVariants.{Counts, ShortDevice, DeviceFault}
use Rattle.bv_format.specs.Plan.{format_plan}
use Rattle.bv_format.specs.Answers.{IsRefusal}
use Rattle.bv_format.specs.Formats.{StopsWell, IsMade, Formats}
use Rattle.bv_format.proofs.PlanLemmas.{IsPlan-format, IsSettled-plan, all_made, now_after-plan, BeginsEmpty-made}
use Rattle.bv_format.proofs.RunLemmas.{Stops-run}
use Rattle.bv_format.proofs.StopLemmas.{IsEmptyVolume-begins, FormatStop-plan, FormatStop-none}

-- A device that isn't touched

untouched-stops : (g : Geometry) (told : Option Disk) → IfSome told (λ d. StopsWell g d told)
untouched-stops g None = tt
untouched-stops g (Some d) = record { events = []; is = ap (λ (x : Disk). Some x) (sym (disk_with-nil d)); stop = FormatStop-none d.base d.trace g }

pub Formats-untouched : (g : Geometry) (fault : FormatFault) (v : Seen) → IsRefusal (Err fault) → Formats g (Err fault) v v
Formats-untouched g (Counts field value) v refused = record {
  plan = inl refl;
  blocks = refl;
  calls = record { later = omega arith; ok = tt; err = omega arith };
  device = refl;
  stops = untouched-stops g v.told;
  made = tt;
}
Formats-untouched g (ShortDevice wanted has) v refused = record {
  plan = inl refl;
  blocks = refl;
  calls = record { later = omega arith; ok = tt; err = omega arith };
  device = refl;
  stops = untouched-stops g v.told;
  made = tt;
}
Formats-untouched g (DeviceFault fault) v refused = absurd refused

-- A run of the plan

stops-run : {T E : Type 0} (r : Result T E) (g : Geometry) (old new : Option Disk) (blocks : ℕ) → IsGeometry g → total_blocks g ≤ blocks → IfSome old (λ d. length d.base ≡ blocks)
    → Follows r (format_plan g) old new → IfSome old (λ d. StopsWell g d new)
stops-run r g None new blocks lawful room long f = tt
stops-run r g (Some d) new blocks lawful room long f =
    Stops-run r g d (format_plan g) (Some d) new (IsPlan-format g) (FormatStop-plan d.base d.trace g lawful (omega (arith, room, long))) refl f

made-by_plan : (g : Geometry) (d : Disk) → IsGeometry g → total_blocks g ≤ length d.base → IsMade g (disk_with d (format_plan g))
made-by_plan g d lawful room =
    let made : Disk = disk_with d (format_plan g) in
    let settled : IsSettled made.trace = IsSettled-plan d.trace g in
    let is : now_of made ≡ all_made g (now_of d) = now_after-append d.base d.trace (format_plan g) ∙ now_after-plan (now_of d) g in
    let begins : BeginsEmpty g (now_of made) = subst (BeginsEmpty g) (sym is) (BeginsEmpty-made (now_of d) g lawful (omega (arith, room, length-now_after d.base d.trace))) in
    record {
      settled = settled;
      begins = begins;
      now = IsEmptyVolume-begins g (now_of made) lawful begins;
      image = λ j i. image-settled made.base made.trace j settled i ∙ sym (image-settled made.base made.trace (now_of made) settled (image-now made.base made.trace));
    }

made-run : (g : Geometry) (old new : Option Disk) (blocks : ℕ) → IsGeometry g → total_blocks g ≤ blocks → IfSome old (λ d. length d.base ≡ blocks)
    → Follows {T = Unit {0}} {E = Failed} (Ok tt) (format_plan g) old new → IfSome old (λ d. IfSome new (λ e. IsMade g e))
made-run g None new blocks lawful room long f = tt
made-run g (Some d) new blocks lawful room long f =
    let is : new ≡ Some (disk_with d (format_plan g)) = f ∙ with_events-some d (format_plan g) in
    subst (λ (o : Option Disk). IfSome o (λ e. IsMade g e)) (sym is) (made-by_plan g d lawful (omega (arith, room, long)))

pub Formats-ok : (g : Geometry) (old new : Seen) → IsGeometry g → total_blocks g ≤ old.block_count → IfSome old.told (λ d. length d.base ≡ old.block_count)
    → Performs {T = Unit {0}} {E = Failed} (Ok tt) (format_plan g) old new → Formats g (Ok tt) old new
Formats-ok g old new lawful room long run = record {
  plan = run.plan;
  blocks = run.blocks;
  calls = record { later = run.calls.later; ok = run.calls.ok; err = tt };
  device = run.faults.kept;
  stops = stops-run {T = Unit {0}} {E = Failed} (Ok tt) g old.told new.told old.block_count lawful room long run.plan;
  made = made-run g old.told new.told old.block_count lawful room long run.plan;
}

pub Formats-err : (g : Geometry) (e : Failed) (fault : ℕ) (old new : Seen) → IsGeometry g → total_blocks g ≤ old.block_count → IfSome old.told (λ d. length d.base ≡ old.block_count)
    → Performs {T = Unit {0}} {E = Failed} (Err e) (format_plan g) old new → fault ≡ new.fault_count → Formats g (Err (DeviceFault fault)) old new
Formats-err g e fault old new lawful room long run is = record {
  plan = run.plan;
  blocks = run.blocks;
  calls = record { later = run.calls.later; ok = tt; err = run.calls.err };
  device = (run.faults.failed, run.faults.later, is);
  stops = stops-run {T = Unit {0}} {E = Failed} (Err e) g old.told new.told old.block_count lawful room long run.plan;
  made = tt;
}
