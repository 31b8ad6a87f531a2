use Rattle.std.proofs.Common.{◌≡◌, None, take}
use Rattle.bv_device.specs.Reads.{Reads}
use Rattle.spec_inspect.specs.Report.{damaged_in}
use Rattle.bv_check.specs.Hashed.{IsIdle}
use Rattle.bv_check.specs.Last.{AreFew, damaged_of}
use Rattle.bv_check.proofs.damage.damaged_by.Given as goal

abbrev pub invariant-loop-blob : goal.invariant-loop-blob
invariant-loop-blob g l = record {
  idle : IsIdle l.hasher;
  few : AreFew l.looked;
  reads : Reads None (g.D.Device.seen l.initial.dev) (g.D.Device.seen l.dev) (λ j. damaged_of l.looked ≡ damaged_in l.geometry j (take l.blob-index l.blobs));
}
