-- The plans of the journal's calls: every event of them is Ok.
use Rattle.std.proofs.Common.{ℕ, zero, suc, ◌+◌, List, [], ◌∷◌, ◌++◌, Bool, true, false, cond, Option, Some, None}
use Rattle.spec_disk.specs.Disk.{Blocks}
use Rattle.spec_record.specs.declared.geometry.Geometry.{Geometry}
use Rattle.spec_record.specs.declared.info.Info.{Info}
use Rattle.spec_record.specs.Geometry.{meta_blocks}
use Rattle.spec_record.specs.Entry.{Entry}
use Rattle.spec_image.specs.After.{payloads_of, last_naming}
use Rattle.bv_device.specs.Plan.{a_sync, writes, IsPlan}
use Rattle.bv_device.proofs.PlanLemmas.{IsPlan-append, IsPlan-writes}
use Rattle.bv_journal.specs.Plans.{ring_writes, info_plan, checkpoint_plan, one_in_place, in_place, scrub, is_clean, recovery, recover_plan}

pub IsPlan-ring : (g : Geometry) (slot : ℕ) (blocks : Blocks) → IsPlan (ring_writes g slot blocks)
IsPlan-ring g slot [] = tt
IsPlan-ring g slot (bytes ∷ rest) = IsPlan-ring g (slot + 1) rest

pub IsPlan-checkpoint : (g : Geometry) (meta : Blocks) (next : Info) → IsPlan (checkpoint_plan g meta next)
IsPlan-checkpoint g meta next = IsPlan-append (writes 0 meta) (a_sync ++ info_plan g next) (IsPlan-writes 0 meta) tt

IsPlan-one : (t : ℕ) (found : Option (List ℕ)) → IsPlan (one_in_place t found)
IsPlan-one t None = tt
IsPlan-one t (Some bytes) = tt

IsPlan-in_place : (payloads : List (ℕ × List ℕ)) (t count : ℕ) → IsPlan (in_place payloads t count)
IsPlan-in_place payloads t zero = tt
IsPlan-in_place payloads t (suc count) =
    IsPlan-append (one_in_place t (last_naming t payloads)) (in_place payloads (t + 1) count) (IsPlan-one t (last_naming t payloads)) (IsPlan-in_place payloads (t + 1) count)

IsPlan-scrub : (g : Geometry) (slots : List ℕ) → IsPlan (scrub g slots)
IsPlan-scrub g [] = tt
IsPlan-scrub g (s ∷ slots) = IsPlan-scrub g slots

module _ (g : Geometry) (es : List Entry) (stale : List ℕ) (next : Info) where
  by_clean : (t : Bool) → IsPlan (cond t [] (recovery g es stale next))
  by_clean true = tt
  by_clean false =
      IsPlan-append (in_place (payloads_of es) 0 (meta_blocks g)) (a_sync ++ (scrub g stale ++ (a_sync ++ info_plan g next))) (IsPlan-in_place (payloads_of es) 0 (meta_blocks g))
      (IsPlan-append (scrub g stale) (a_sync ++ info_plan g next) (IsPlan-scrub g stale) tt)

  pub IsPlan-recover : IsPlan (recover_plan g es stale next)
  IsPlan-recover = by_clean (is_clean es stale)
