-- For callers of `mount`: what an inspection has just said of the device is what a mount asks.
use Rattle.std.proofs.Common.{◌≤◌, Option, Some, None, IfSome, sym, subst, arith}
use Rattle.spec_disk.specs.Images.{IsSettled}
use Rattle.spec_record.specs.Geometry.{total_blocks}
use Rattle.bv_device.specs.Told.{Disk, now_of}
use Rattle.bv_device.specs.Reads.{Reads, ReadsRight}
use Rattle.bv_device.specs.Seen.{Seen}
use Rattle.bv_mount.specs.declared.inspected.Inspected.{Inspected}
use Rattle.bv_mount.specs.Inspects.{IsInspected}
use Rattle.bv_mount.proofs.StayLemmas.{settled_right}
use Rattle.bv_mounted.specs.Mounts.{Gives}

told_gives : (i : Inspected) (o : Option Disk) → IfSome o (λ d. ReadsRight d → IsInspected (now_of d) i) → IfSome o (λ d. IsSettled d.trace → IsInspected (now_of d) i)
told_gives i None sees = tt
told_gives i (Some d) sees = λ settled. sees (λ b. settled_right d.trace b settled)

-- a device that was inspected, and only read, gives the volume that was found
pub inspect_gives : (i : Inspected) (old new : Seen) → Reads None old new (λ j. IsInspected j i) → Gives new i
inspect_gives i old new reads = subst (λ (o : Option Disk). IfSome o (λ d. IsSettled d.trace → IsInspected (now_of d) i)) (sym reads.only.told) (told_gives i old.told reads.now)

-- and has room for it
pub inspect_fits : (i : Inspected) (old new : Seen) → Reads None old new (λ j. IsInspected j i) → total_blocks i.geometry ≤ old.block_count → total_blocks i.geometry ≤ new.block_count
inspect_fits i old new reads total = omega (arith, total, reads.only.blocks)
