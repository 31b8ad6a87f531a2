-- What the stops of a run of a disk leave, by the stops of its plan.
use Rattle.std.proofs.Common.{◌≡◌, ℕ, ◌+◌, ◌-◌, List, [], ◌∷◌, ◌++◌, length, take, Option, Some, Result, ap, ◌∙◌, subst, arith}
use Rattle.std.proofs.lemmas.List.{length-append}
use Rattle.std.proofs.Math.Seq.{take-append-add}
use Rattle.spec_disk.specs.declared.event.Event.{Event}
use Rattle.spec_disk.specs.Disk.{Blocks}
use Rattle.spec_disk.specs.Images.{IsImage}
use Rattle.spec_record.specs.declared.geometry.Geometry.{Geometry}
use Rattle.spec_record.specs.declared.info.Info.{Info}
use Rattle.spec_image.specs.Chance.{NoChance}
use Rattle.spec_image.specs.Leaves.{LeavesWithin}
use Rattle.bv_device.specs.Told.{Disk, disk_with}
use Rattle.bv_device.specs.Plan.{a_sync, writes, IsPlan, Follows}
use Rattle.bv_device.proofs.PlanLemmas.{IsPlan-append, IsPlan-writes}
use Rattle.bv_journal.specs.Plans.{ring_writes, info_plan, checkpoint_plan}
use Rattle.bv_journal.specs.Stops.{Stops, RanFair}
use Rattle.bv_journal.proofs.StopLemmas.{RanFair-run}

-- the device tells that since d some events came, and each stop within them leaves P
pub record Left (d : Disk) (told : Option Disk) (P : Blocks → Type 0) : Type 0 where
  pub events : List Event
  pub is : told ≡ Some (disk_with d events)
  pub leaves : LeavesWithin d.base d.trace events P

pub run_leaves : {T E : Type 0} (r : Result T E) (d : Disk) (plan : List Event) (new : Option Disk) (P : Blocks → Type 0) → IsPlan plan → Stops d plan P → Follows r plan (Some d) new → Left d new P
run_leaves r d plan new P planned stops follows =
    let ran : RanFair d new plan = RanFair-run r d plan new planned follows in
    record {
      events = ran.events;
      is = ran.is;
      leaves = λ n past le j image fair.
          let k : ℕ = n - length d.trace in
          let n_is : n ≡ length d.trace + k = omega (arith, past) in
          let same : take n (d.trace ++ ran.events) ≡ d.trace ++ take k ran.events = ap (λ (m : ℕ). take m (d.trace ++ ran.events)) n_is ∙ take-append-add d.trace ran.events k in
          let left = ran.stops k j (omega (arith, le, length-append d.trace ran.events)) (subst (λ (t : List Event). IsImage d.base t j) same image) (subst (λ (t : List Event). NoChance d.base t j) same fair) in
          stops left.count left.planned j left.left left.fair;
    }

-- ---- plans

pub ring_plan : (g : Geometry) (slot : ℕ) (blocks : Blocks) → IsPlan (ring_writes g slot blocks)
ring_plan g slot [] = tt
ring_plan g slot (bytes ∷ rest) = ring_plan g (slot + 1) rest

pub whole_checkpoint : (g : Geometry) (meta : Blocks) (next : Info) → IsPlan (checkpoint_plan g meta next)
whole_checkpoint g meta next = IsPlan-append (writes 0 meta) (a_sync ++ info_plan g next) (IsPlan-writes 0 meta) tt
