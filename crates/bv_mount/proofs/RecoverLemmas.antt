-- How a recovery ends: refused, stopped by a call that failed, or done.
use Rattle.std.proofs.Common.{◌≡◌, ◌≤◌, ◌++◌, inl, inr, ℕ, List, length, None, Result, Ok, Err, IfSome, ap, sym, subst}
use Rattle.std.specs.Prelude.{IsErrAnd}
use Rattle.spec_disk.specs.declared.event.Event.{Event}
use Rattle.spec_disk.specs.Images.{IsSettled}
use Rattle.spec_record.specs.Geometry.{total_blocks}
use Rattle.bv_device.specs.Seen.{Seen, Performs}
use Rattle.bv_device.specs.Told.{now_of}
use Rattle.bv_device.specs.Reads.{ReadsRight, Reads, Sees}
use Rattle.bv_device.proofs.ReadsLemmas.{OnlyReads-same, Reads-weaker}
use Rattle.spec_inspect.specs.declared.mount_fault.MountFault.{MountFault}
use Rattle.spec_inspect.specs.declared.mount_fault.MountFault.TheVariants as mount
use Rattle.spec_inspect.specs.Inspection.{inspect_of}
use Rattle.bv_mount.specs.declared.inspected.Inspected.{Inspected}
use Rattle.bv_mount.specs.Reports.{mount_reported_by}
use Rattle.bv_mount.specs.Inspects.{inspection, IsInspected, RefusesMount}
use Rattle.bv_mount.specs.Recovers.{plan_for, RestsAfter, RefusesRecovery, RunsPlan, Recovers}
use Rattle.bv_mount.proofs.KeepLemmas.{plan_rests, plan_settles}
use Rattle.bv_mount.proofs.RunLemmas.{KeepsBlobs, recovery_keeps, told_keeps, told_now, told_settles, seen_inspected}

pub err_is : {A : Type 0} (r : Result A MountFault) (f : MountFault) → IsErrAnd r (λ y. y ≡ f) → r ≡ Err f
err_is (Ok v) f is = absurd is
err_is (Err y) f is = ap (λ (x : MountFault). Err x) is

-- the inspection refused
pub refused : (r : Result ℕ MountFault) (f : MountFault) (old new : Seen) → IsErrAnd r (λ y. y ≡ f) → Reads (mount_reported_by f) old new (λ j. RefusesMount (inspect_of j) f) → RefusesRecovery r old new
refused r f old new stopped reads = record { fault = f; is = err_is r f stopped; reads = reads }

pub recover_refused : (r : Result ℕ MountFault) (f : MountFault) (old new : Seen) → IsErrAnd r (λ y. y ≡ f) → Reads (mount_reported_by f) old new (λ j. RefusesMount (inspect_of j) f) → Recovers r old new
recover_refused r f old new stopped reads = inl (refused r f old new stopped reads)

-- the same outcome with another value
performs_as : {T U : Type 0} (v : T) (w : U) (events : List Event) (old new : Seen) → Performs {T = T} {E = MountFault} (Ok v) events old new → Performs {T = U} {E = MountFault} (Ok w) events old new
performs_as v w events old new p = record {
  plan = p.plan;
  blocks = p.blocks;
  calls = record { later = p.calls.later; ok = p.calls.ok; err = tt };
  faults = record { later = p.faults.later; failed = tt; kept = p.faults.kept };
}

performs_err : {T U : Type 0} (f : MountFault) (events : List Event) (old new : Seen) → Performs {T = T} {E = MountFault} (Err f) events old new → Performs {T = U} {E = MountFault} (Err f) events old new
performs_err f events old new p = record {
  plan = p.plan;
  blocks = p.blocks;
  calls = record { later = p.calls.later; ok = tt; err = p.calls.err };
  faults = record { later = p.faults.later; failed = p.faults.failed; kept = tt };
}

module _ (plan : List Event) (i : Inspected) (old mid new : Seen) (reads : Reads None old mid (λ j. IsInspected j i)) (sees : Sees old (λ j. KeepsBlobs j plan)) where
  found : Sees old (λ j. inspect_of j ≡ Ok (inspection i))
  found = (Reads-weaker None old mid (λ j. IsInspected j i) (λ j. inspect_of j ≡ Ok (inspection i)) reads (λ j is. is.is)).now

  same : mid ≡ old
  same = OnlyReads-same old mid reads.only

  -- the plan was done
  pub plan_done : ((trace : List Event) → IsSettled trace → IsSettled (trace ++ plan)) → (count : ℕ) → count ≡ length i.replay.entries.items
      → Performs {T = Unit {0}} {E = MountFault} (Ok tt) plan mid new → RunsPlan (inspection i) plan (Ok count) old new
  plan_done settles count is performs =
      let done : Performs {T = ℕ} {E = MountFault} (Ok count) plan old new =
      performs_as tt count plan old new (subst (λ (s : Seen). Performs {T = Unit {0}} {E = MountFault} (Ok tt) plan s new) same performs) in
      record {
        seen = found;
        performs = done;
        count = is;
        fault = tt;
        keeps = told_keeps old new (Ok count) plan sees done.plan;
        now = told_now old new (Ok count) plan sees done.plan;
        settled = told_settles old new (Ok count) plan sees settles done.plan;
      }

  -- a call of the device failed
  pub plan_cut : (f : MountFault) → f ≡ mount.DeviceFault new.fault_count → Performs {T = Unit {0}} {E = MountFault} (Err f) plan mid new → RunsPlan (inspection i) plan (Err f) old new
  plan_cut f is performs =
      let cut : Performs {T = ℕ} {E = MountFault} (Err f) plan old new =
      performs_err f plan old new (subst (λ (s : Seen). Performs {T = Unit {0}} {E = MountFault} (Err f) plan s new) same performs) in
      record {
        seen = found;
        performs = cut;
        count = tt;
        fault = is;
        keeps = told_keeps old new (Err f) plan sees cut.plan;
        now = tt;
        settled = tt;
      }

module _ (i : Inspected) (old mid new : Seen) (law : IfSome old.told (λ d. length d.base ≡ old.block_count)) (total : total_blocks i.geometry ≤ old.block_count) (reads : Reads None old mid (λ j. IsInspected j i)) where
  recovery_seen : Sees old (λ j. KeepsBlobs j (plan_for (inspection i)))
  recovery_seen = seen_inspected i old (λ j. KeepsBlobs j (plan_for (inspection i))) law total reads.now (recovery_keeps i)

  rests_seen : IfSome old.told (λ d. ReadsRight d → RestsAfter (inspection i) (now_of d))
  rests_seen = seen_inspected i old (RestsAfter (inspection i)) law total reads.now (plan_rests i)

  pub recover_done : (count : ℕ) → count ≡ length i.replay.entries.items → Performs {T = Unit {0}} {E = MountFault} (Ok tt) (plan_for (inspection i)) mid new → Recovers (Ok count) old new
  recover_done count is performs =
      inr (record {
        found = inspection i;
        run = plan_done (plan_for (inspection i)) i old mid new reads recovery_seen (λ trace settled. plan_settles trace (inspection i) settled) count is performs;
        rests = rests_seen;
      })

  pub recover_cut : (r : Result ℕ MountFault) (f : MountFault) → IsErrAnd r (λ y. y ≡ f) → f ≡ mount.DeviceFault new.fault_count → Performs {T = Unit {0}} {E = MountFault} (Err f) (plan_for (inspection i)) mid new
      → Recovers r old new
  recover_cut r f stopped is performs =
      let cut : Recovers (Err f) old new = inr (record { found = inspection i; run = plan_cut (plan_for (inspection i)) i old mid new reads recovery_seen f is performs; rests = tt }) in
      subst (λ (x : Result ℕ MountFault). Recovers x old new) (sym (err_is r f stopped)) cut
