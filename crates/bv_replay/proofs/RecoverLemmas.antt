-- What stops leave of a recovery, by the stops of its plan.
use Rattle.std.proofs.Common.{◌≡◌, ℕ, List, [], Option, Some, None, Result, Ok, Err, refl, sym, subst}
use Rattle.std.specs.Prelude.{IfSome, OnOk}
use Rattle.spec_disk.specs.declared.event.Event.{Event}
use Rattle.spec_disk.specs.Disk.{Blocks}
use Rattle.spec_record.specs.declared.geometry.Geometry.{Geometry}
use Rattle.spec_record.specs.declared.info.Info.{Info}
use Rattle.bv_device.specs.Told.{Disk, disk_with}
use Rattle.bv_device.specs.Plan.{Follows}
use Rattle.bv_device.specs.Seen.{Seen, Performs}
use Rattle.bv_journal.specs.Holds.{HoldsMeta}
use Rattle.bv_journal.specs.Plans.{recover_plan}
use Rattle.bv_journal.specs.Rests.{AtRest}
use Rattle.bv_journal.specs.Stops.{Stops}
use Rattle.bv_journal.proofs.PlanLemmas.{IsPlan-recover}
use Rattle.bv_journal.proofs.StopLemmas.{Left-run, At-end}
use Rattle.bv_journal.proofs.RecoveryLemmas.{recover-stops, recover-done}
use Rattle.bv_replay.specs.declared.replay.Replay.{Replay}
use Rattle.bv_replay.specs.Found.{FitsGeometry, next_info}
use Rattle.bv_replay.specs.Stops.{MayRecover, RecoverStops, RecoverRests}

-- what is said of each disk that a device may tell holds of what it told
told_by : {P : Disk → Type 0} (told : Option Disk) → ((d : Disk) → told ≡ Some d → P d) → IfSome told P
told_by None each = tt
told_by (Some d) each = each d refl

-- the plan that a replay gives
abbrev pub plan_of : Geometry → Replay → List Event
plan_of g r = recover_plan g r.entries.items r.stale.items (next_info r)

module _ (g : Geometry) (r : Replay) (fits : FitsGeometry g r) (d : Disk) (i : Info) (meta : Blocks) (may : MayRecover g i meta d r) where
  plan_stops : Stops d (plan_of g r) (HoldsMeta g meta)
  plan_stops =
      subst (λ (stale : List ℕ). Stops d (recover_plan g r.entries.items stale (next_info r)) (HoldsMeta g meta)) (sym may.stale)
      (recover-stops g i (next_info r) r.entries.items meta d may.opened may.slot may.number fits.number.to_high)

  plan_done : AtRest g (next_info r) [] None meta (disk_with d (plan_of g r))
  plan_done =
      subst (λ (stale : List ℕ). AtRest g (next_info r) [] None meta (disk_with d (recover_plan g r.entries.items stale (next_info r)))) (sym may.stale)
      (recover-done g i (next_info r) r.entries.items meta d may.opened may.slot may.number fits.number.to_high)

pub recover_stops : {T E : Type 0} (x : Result T E) (g : Geometry) (r : Replay) (old new : Seen) → FitsGeometry g r → Performs x (plan_of g r) old new → RecoverStops g r old new
recover_stops x g r old new fits performs = told_by old.told (λ d told i meta may.
    Left-run x d (plan_of g r) new.told (HoldsMeta g meta) (IsPlan-recover g r.entries.items r.stale.items (next_info r)) (plan_stops g r fits d i meta may)
    (subst (λ (o : Option Disk). Follows x (plan_of g r) o new.told) told performs.plan))

pub recover_rests : {T E : Type 0} (x : Result T E) (g : Geometry) (r : Replay) (old new : Seen) → FitsGeometry g r → Performs x (plan_of g r) old new → OnOk x (RecoverRests g r old new)
recover_rests (Err e) g r old new fits performs = tt
recover_rests {T} {E} (Ok v) g r old new fits performs = told_by old.told (λ d told i meta may.
    At-end {T = T} {E = E} (Ok v) d (plan_of g r) new.told (AtRest g (next_info r) [] None meta) (plan_done g r fits d i meta may)
    (subst (λ (o : Option Disk). Follows {T = T} {E = E} (Ok v) (plan_of g r) o new.told) told performs.plan))
