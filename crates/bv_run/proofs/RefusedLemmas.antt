-- A run on the volume that is there, which was refused before its sessions began.
use Rattle.std.proofs.Common.{◌≡◌, ◌⊎◌, inl, inr, List, Option, None, Some, Err, refl, ap, sym, ◌∙◌, subst}
use Rattle.std.specs.Prelude.{IfSome}
use Rattle.spec_disk.specs.declared.event.Event.{Event}
use Rattle.spec_disk.specs.Images.{IsSettled}
use Rattle.spec_script.specs.declared.line.ScriptLine.{ScriptLine}
use Rattle.spec_headline.specs.Headline.{Survives}
use Rattle.spec_headline.specs.Run.{HasWholeBlobs}
use Rattle.spec_inspect.specs.declared.mount_fault.MountFault.{MountFault}
use Rattle.spec_inspect.specs.declared.mount_fault.MountFault.TheVariants as mount
use Rattle.spec_inspect.specs.Inspection.{inspect_of}
use Rattle.bv_device.specs.Reads.{OnlyReads, Reads}
use Rattle.bv_device.specs.Seen.{Seen}
use Rattle.bv_device.specs.Told.{Disk, disk_with, now_of}
use Rattle.bv_mount.specs.declared.inspected.Inspected.{Inspected}
use Rattle.bv_mount.specs.Inspects.{RefusesMount}
use Rattle.bv_mount.specs.Reports.{mount_reported_by}
use Rattle.bv_mounted.specs.Mounts.{Gives, Refused, history_of}
use Rattle.bv_mounted.proofs.OpensLemmas.{refused_mounts_survive}
use Rattle.bv_serve.specs.declared.refusal.Refusal.TheVariants as refusals
use Rattle.bv_serve.specs.Lines.{mount_refusal}
use Rattle.bv_run.specs.Begun.{IsRefusedBy}
use Rattle.bv_run.specs.Outcomes.{Came, IsOfDevice}
use Rattle.bv_run.specs.Reports.{NotBegun}
use Rattle.bv_run.specs.Told.{IsTold}

-- a run that only read, and reported no fault, leaves what is seen of the device
pub reads_same : (old new : Seen) → OnlyReads None old new → new ≡ old
reads_same old new only = λ k. record {
  told = only.told k;
  block_count = only.blocks k;
  calls_made = only.calls k;
  fault_count = only.faults k;
}

some_is : {A : Type 0} (x y : A) → Some x ≡ Some y → x ≡ y
some_is x y e = cc e

-- what is told stays, so the disk does
same_disk : (o p : Option Disk) (d e : Disk) → p ≡ o → o ≡ Some d → p ≡ Some e → e ≡ d
same_disk o p d e same is is_new = some_is e d (sym is_new ∙ (same ∙ is))

-- ---- by the inspection

-- the refusal that an inspection's fault gives
inspect_refused : (fault : MountFault) (old new : Seen) → Reads (mount_reported_by fault) old new (λ j. RefusesMount (inspect_of j) fault)
    → IsRefusedBy None (mount_refusal fault) old new × IsOfDevice (mount_refusal fault)
inspect_refused (mount.Super f) old new reads = (inr (record { before = old; is_made = refl; named = refl; reads = reads }), tt)
inspect_refused (mount.Replay f) old new reads = (inr (record { before = old; is_made = refl; named = refl; reads = reads }), tt)
inspect_refused mount.Moved old new reads = (inr (record { before = old; is_made = refl; named = refl; reads = reads }), tt)
inspect_refused (mount.Node node f) old new reads = (inr (record { before = old; is_made = refl; named = refl; reads = reads }), tt)
inspect_refused (mount.Overlap block) old new reads = (inr (record { before = old; is_made = refl; named = refl; reads = reads }), tt)
inspect_refused (mount.Twice root) old new reads = (inr (record { before = old; is_made = refl; named = refl; reads = reads }), tt)
inspect_refused (mount.Bitmap block says) old new reads = (inr (record { before = old; is_made = refl; named = refl; reads = reads }), tt)
inspect_refused (mount.SuperCount field said found) old new reads = (inr (record { before = old; is_made = refl; named = refl; reads = reads }), tt)
inspect_refused (mount.DeviceFault count) old new reads = (reads.only.faults.0, tt)
inspect_refused mount.NoMemory old new reads = (tt, tt)

pub not_inspected : (lines : List ScriptLine) (fault : MountFault) (old new : Seen) → Reads (mount_reported_by fault) old new (λ j. RefusesMount (inspect_of j) fault)
    → Came lines None (Err (mount_refusal fault)) old new
not_inspected lines fault old new reads =
    let by = inspect_refused fault old new reads in (
      NotBegun (mount_refusal fault),
      (refl, by.1),
      record {
        begins = by.0;
        holds = tt;
        tells = tt;
        told = λ d e is is_new premises. inl (same_disk old.told new.told d e reads.only.told is is_new);
      },
    )

-- ---- by want of memory

pub no_memory : (lines : List ScriptLine) (old new : Seen) → new ≡ old → Came lines None (Err refusals.NoMemory) old new
no_memory lines old new same = (
  NotBegun refusals.NoMemory,
  (refl, tt),
  record {
    begins = tt;
    holds = tt;
    tells = tt;
    told = λ d e is is_new premises. inl (same_disk old.told new.told d e (ap (λ (s : Seen). s.told) same) is is_new);
  },
)

-- ---- by the mount

module _ (old : Seen) (i : Inspected) (new : Seen) (gives : Gives old i) where
  mount_told : (fault : MountFault) → Refused old i new fault → (d e : Disk) → old.told ≡ Some d → new.told ≡ Some e → IsSettled d.trace → HasWholeBlobs (now_of d)
      → IsTold None (NotBegun (mount_refusal fault)) d e
  mount_told fault refused d e is is_new settled whole =
      let P : Disk → Type 0 = λ x. IsSettled x.trace → HasWholeBlobs (now_of x)
      → (new ≡ old) ⊎ ((events : List Event) × (new.told ≡ Some (disk_with x events)) × Survives (now_of x) events (history_of i) i.replay.next_number) in
      let Q : Option Disk → Type 0 = λ o. IfSome o P in
      let at : P d = subst Q is (refused_mounts_survive old i new fault gives refused) in
      elim (at settled whole) as (λ _. IsTold None (NotBegun (mount_refusal fault)) d e) [
        | inl same ↦ inl (same_disk old.told new.told d e (ap (λ (s : Seen). s.told) same) is is_new)
        | inr kept ↦ inr (inr (inr (record {
          opening = d;
          is_opening = refl;
          events = kept.0;
          is = some_is e (disk_with d kept.0) (sym is_new ∙ kept.1);
          holds = (history_of i, i.replay.next_number, refl, kept.2);
        })))
      ]

  -- a recovery that failed
  pub not_mounted : (lines : List ScriptLine) (fault : MountFault) → Refused old i new fault → Came lines None (Err (mount_refusal fault)) old new
  not_mounted lines mount.NoMemory refused = no_memory lines old new refused
  not_mounted lines (mount.DeviceFault count) refused = (
    NotBegun refusals.DeviceFault,
    (refl, tt),
    record {
      begins = refused.1.faults.failed;
      holds = tt;
      tells = tt;
      told = λ d e is is_new premises. mount_told (mount.DeviceFault count) refused d e is is_new premises.0 premises.1;
    },
  )
  not_mounted lines (mount.Super f) refused = absurd refused
  not_mounted lines (mount.Replay f) refused = absurd refused
  not_mounted lines mount.Moved refused = absurd refused
  not_mounted lines (mount.Node node f) refused = absurd refused
  not_mounted lines (mount.Overlap block) refused = absurd refused
  not_mounted lines (mount.Twice root) refused = absurd refused
  not_mounted lines (mount.Bitmap block says) refused = absurd refused
  not_mounted lines (mount.SuperCount field said found) refused = absurd refused
