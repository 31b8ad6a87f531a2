-- An image with a map of blobs is refused only for want of memory or a failed call, and opens with its map.
use Rattle.std.proofs.Common.{◌≡◌, List, [], Option, Some, Result, Ok, Err, refl, sym, ◌∙◌, subst}
use Rattle.std.specs.Prelude.{IfSome, IsOk, IsSome}
use Rattle.spec_disk.specs.Disk.{Blocks}
use Rattle.spec_disk.specs.Images.{IsSettled}
use Rattle.spec_tree.specs.declared.Digest.{Digest}
use Rattle.spec_tree.specs.declared.blob.Blob.{Blob}
use Rattle.spec_image.specs.Volume.{blobs}
use Rattle.spec_core.specs.History.{opening_map}
use Rattle.spec_crash.specs.Crash.{map_after}
use Rattle.spec_inspect.specs.declared.mount_fault.MountFault.{MountFault}
use Rattle.spec_inspect.specs.declared.mount_fault.MountFault.TheVariants as mount
use Rattle.spec_inspect.specs.Inspection.{Inspection, inspect_of}
use Rattle.spec_inspect.proofs.OutcomeLemmas.{blobs_are_ok, volume_or_none}
use Rattle.bv_device.specs.Seen.{Seen}
use Rattle.bv_device.specs.Told.{Disk, now_of}
use Rattle.bv_device.specs.Reads.{Reads, ReadsRight}
use Rattle.bv_claims.specs.declared.claims.Claims.{Claims}
use Rattle.bv_mount.specs.declared.inspected.Inspected.{Inspected}
use Rattle.bv_mount.specs.Inspects.{RefusesMount}
use Rattle.bv_mount.specs.Reports.{mount_reported_by}
use Rattle.bv_volume.specs.Seen.{Seen as Volume}
use Rattle.bv_mounted.specs.Mounts.{Mounts, Refused}
use Rattle.bv_remount.specs.Remounts.{IsOutside, WhatAStopLeavesMounts}

-- the device as a stop left it
abbrev left : Blocks → Disk
left j = record { base = j; trace = [] }

some_is : {A : Type 0} (x y : A) → Some x ≡ Some y → x ≡ y
some_is x y e = cc e

wrong : {A : Type 0} (due : Result A MountFault) (fault : MountFault) → IsOk due → due ≡ Err fault → ⊥
wrong (Ok v) fault ok is = cc
wrong (Err f) fault ok is = cc

-- what an inspection answers, where the image has a map
outside : (old new : Seen) (why : MountFault) (due : Result Inspection MountFault) (P : Blocks → Type 0) → IsOk due → RefusesMount due why → Reads (mount_reported_by why) old new P → IsOutside why old new
outside old new mount.NoMemory due P ok refused reads = tt
outside old new (mount.DeviceFault count) due P ok refused reads = reads.only.faults.0
outside old new (mount.Super f) due P ok refused reads = wrong due (mount.Super f) ok refused
outside old new (mount.Replay f) due P ok refused reads = wrong due (mount.Replay f) ok refused
outside old new mount.Moved due P ok refused reads = wrong due mount.Moved ok refused
outside old new (mount.Node node f) due P ok refused reads = wrong due (mount.Node node f) ok refused
outside old new (mount.Overlap at) due P ok refused reads = wrong due (mount.Overlap at) ok refused
outside old new (mount.Twice root) due P ok refused reads = wrong due (mount.Twice root) ok refused
outside old new (mount.Bitmap at says) due P ok refused reads = wrong due (mount.Bitmap at says) ok refused
outside old new (mount.SuperCount field said found) due P ok refused reads = wrong due (mount.SuperCount field said found) ok refused

-- what a mount answers
refused_outside : (old : Seen) (i : Inspected) (new : Seen) (why : MountFault) → Refused old i new why → IsOutside why old new
refused_outside old i new mount.NoMemory refused = tt
refused_outside old i new (mount.DeviceFault count) refused = refused.1.faults.failed
refused_outside old i new (mount.Super f) refused = absurd refused
refused_outside old i new (mount.Replay f) refused = absurd refused
refused_outside old i new mount.Moved refused = absurd refused
refused_outside old i new (mount.Node node f) refused = absurd refused
refused_outside old i new (mount.Overlap at) refused = absurd refused
refused_outside old i new (mount.Twice root) refused = absurd refused
refused_outside old i new (mount.Bitmap at says) refused = absurd refused
refused_outside old i new (mount.SuperCount field said found) refused = absurd refused

module _ (j : Blocks) (dev : Seen) (is : dev.told ≡ Some (left j)) (held : List (Digest × Blob)) (has : blobs j ≡ Some held) where
  finds : (new : Seen) (why : MountFault) → Reads (mount_reported_by why) dev new (λ i. RefusesMount (inspect_of i) why) → IsOutside why dev new
  finds new why reads =
      let at : ReadsRight (left j) → RefusesMount (inspect_of j) why = subst (λ (o : Option Disk). IfSome o (λ d. ReadsRight d → RefusesMount (inspect_of (now_of d)) why)) is reads.now in
      outside dev new why (inspect_of j) (λ i. RefusesMount (inspect_of i) why)
      (blobs_are_ok j (volume_or_none j) (subst (λ (o : Option (List (Digest × Blob))). IsSome o) (sym has) refl)) (at (λ b. refl)) reads

  opens_with : (i : Inspected) (claims : Claims) (v : Volume) → Mounts dev i claims v → opening_map v.history ≡ held
  opens_with i claims v m =
      let at : IsSettled [] → blobs j ≡ Some (opening_map v.history) = subst (λ (o : Option Disk). IfSome o (λ d. IsSettled d.trace → blobs (now_of d) ≡ Some (opening_map v.history))) is m.blobs_are in
      some_is (opening_map v.history) held (sym (at (λ b. refl)) ∙ has)

pub remounts : WhatAStopLeavesMounts
remounts base events h next survives n j within image chance dev is =
    let prefix = survives.stops.stops n j within image chance in
    let held : List (Digest × Blob) = map_after h prefix.count in
    record {
      count = prefix.count;
      durable = prefix.durable;
      logged = prefix.logged;
      boundary = prefix.boundary;
      inspected = finds j dev is held prefix.holds.is;
      mounted = refused_outside dev;
      opens = opens_with j dev is held prefix.holds.is;
      whole = prefix.holds.whole;
    }
