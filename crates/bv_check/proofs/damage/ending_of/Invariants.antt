use Rattle.std.proofs.Common.{◌≡◌, None, take}
use Rattle.spec_image.specs.Chain.{lengths}
use Rattle.spec_image.specs.Stored.{blocks_of}
use Rattle.bv_device.specs.Reads.{Reads}
use Rattle.bv_check.specs.Hashed.{IsHashing, HasTaken, plan_of}
use Rattle.bv_check.specs.Checks.{data_at}
use Rattle.bv_check.proofs.damage.ending_of.Given as goal

abbrev pub invariant-loop-extent : goal.invariant-loop-extent
invariant-loop-extent g l = record {
  lawful : IsHashing l.hasher;
  plan : plan_of l.hasher ≡ plan_of l.initial.hasher;
  came : l.hasher.came ≡ lengths (take l.extent-index l.blob.extents);
  reads : Reads None (g.D.Device.seen l.initial.dev) (g.D.Device.seen l.dev) (λ j. HasTaken l.hasher (data_at l.geometry j (blocks_of (take l.extent-index l.blob.extents))));
}
