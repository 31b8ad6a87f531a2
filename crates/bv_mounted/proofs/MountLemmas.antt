-- What a mount answers: the volume, or the device with the fault of a call.
use Rattle.std.proofs.Common.{◌≡◌, ◌≤◌, ℕ, ◌-◌, length, Option, Some, None, Ok, Err, IfSome, refl, ap, sym, ◌∙◌, subst, arith}
use Rattle.std.specs.Prelude.{option_map}
use Rattle.spec_disk.specs.Images.{IsSettled}
use Rattle.spec_record.specs.Geometry.{total_blocks}
use Rattle.spec_image.specs.Blobs.{blob_map}
use Rattle.spec_image.specs.Volume.{blobs}
use Rattle.spec_inspect.specs.declared.mount_fault.MountFault.TheVariants as mount
use Rattle.spec_core.specs.History.{History, opening_map}
use Rattle.bv_claims.specs.declared.claims.Claims.{Claims}
use Rattle.bv_device.specs.Told.{Disk, now_of}
use Rattle.bv_device.specs.Seen.{Seen, Performs}
use Rattle.bv_device.specs.declared.device_fault.DeviceFault.{DeviceFault}
use Rattle.bv_mount.specs.declared.inspected.Inspected.{Inspected}
use Rattle.bv_mount.specs.Inspects.{inspection}
use Rattle.bv_mount.specs.Recovers.{plan_for}
use Rattle.bv_ring.specs.Cursor.{Cursor}
use Rattle.bv_store.specs.Stored.{Stored}
use Rattle.bv_journaled.specs.Since.{calls_since}
use Rattle.bv_journaled.specs.Standing.{stored_of}
use Rattle.bv_volume.specs.Seen.{Seen as Volume, IsSafe}
use Rattle.bv_mounted.specs.Mounts.{records_in, history_of, recovered, first_standing, WasRecovered, Gives, Mounts, Refused}
use Rattle.bv_mounted.proofs.SafeLemmas.{opening_is}
use Rattle.bv_mounted.proofs.ToldLemmas.{told_began, told_since, told_was, told_blobs, told_keeps}

calls_told : (i : Inspected) (o : Option Disk) (calls : ℕ) → calls ≡ length (plan_for (inspection i)) → calls_since (option_map (recovered i) o) calls ≡ length (plan_for (inspection i))
calls_told i None calls is = is
calls_told i (Some d) calls is = refl

-- the recovery was done, and nothing else
pub was_recovered : (i : Inspected) (n : ℕ) (old new : Seen) → n ≡ old.calls_made → IfSome old.told (λ d. length d.trace ≡ old.calls_made) → Gives old i
    → Performs {T = Unit {0}} {E = DeviceFault} (Ok tt) (plan_for (inspection i)) old new → IfSome new.told (WasRecovered i n)
was_recovered i n old new at long gives performs =
    told_was i n old.told new.told (subst (λ (k : ℕ). IfSome old.told (λ d. length d.trace ≡ k)) (sym at) long) gives performs.plan

-- what the mount answers then
pub mounts : (i : Inspected) (claims : Claims) (n : ℕ) (old new : Seen) (ring : Cursor) (v : Volume) → n ≡ old.calls_made → IfSome old.told (λ d. length d.trace ≡ old.calls_made) → Gives old i
    → Performs {T = Unit {0}} {E = DeviceFault} (Ok tt) (plan_for (inspection i)) old new → v.history ≡ history_of i → v.next ≡ i.replay.next_number → v.spare ≡ 0 → v.space.claims ≡ claims
    → v.store ≡ stored_of (first_standing new n i.meta ring) → IsSafe v → Mounts old i claims v
mounts i claims n old new ring v at long gives performs history next spare table store safe =
    let count : IfSome old.told (λ d. length d.trace ≡ n) = subst (λ (k : ℕ). IfSome old.told (λ d. length d.trace ≡ k)) (sym at) long in
    let told = told_since i n old.told new.told count performs.plan in
    let made : new.calls_made - n ≡ length (plan_for (inspection i)) = omega (arith, performs.calls.ok, at) in
    record {
      history = history;
      opening = ap opening_map history ∙ opening_is (blob_map (records_in i));
      next = next;
      spare = spare;
      claims_are = table;
      geometry = ap (λ (s : Stored). s.geometry) store ∙ i.lawful.geometry;
      began = ap (λ (s : Stored). s.began) store ∙ told_began i n old.told new.told count performs.plan;
      told = ap (λ (s : Stored). s.told) store ∙ told;
      calls =
          ap (λ (s : Stored). s.calls) store
          ∙ ap (λ (o : Option Disk). calls_since o (new.calls_made - n)) told
          ∙ calls_told i old.told (new.calls_made - n) made;
      faults = ap (λ (s : Stored). s.faults) store ∙ performs.faults.kept;
      blobs_are = subst (λ (h : History). IfSome old.told (λ d. IsSettled d.trace → blobs (now_of d) ≡ Some (opening_map h))) (sym history) (told_blobs i old.told gives);
      safe = safe;
    }

-- a call of the recovery failed
pub refused : (i : Inspected) (old new : Seen) (e : DeviceFault) → IfSome old.told (λ d. length d.base ≡ old.block_count) → total_blocks i.geometry ≤ old.block_count → Gives old i
    → Performs {T = Unit {0}} {E = DeviceFault} (Err e) (plan_for (inspection i)) old new → e.fault ≡ new.fault_count → Refused old i new (mount.DeviceFault e.fault)
refused i old new e long total gives p fault = (
  fault,
  record {
    plan = p.plan;
    blocks = p.blocks;
    calls = record { later = p.calls.later; ok = tt; err = p.calls.err };
    faults = record { later = p.faults.later; failed = p.faults.failed; kept = tt };
  },
  told_keeps i (Err (mount.DeviceFault e.fault)) old.told new.told old.block_count long total gives p.plan,
)
