use Rattle.std.proofs.Common.{◌≡◌, ◌≤◌, ◌*◌, take}
use Rattle.bv_check.specs.Checks.{sizes}
use Rattle.bv_check.proofs.checking.total_size.Given as goal

abbrev pub invariant-loop-blob : goal.invariant-loop-blob
invariant-loop-blob l = record {
  total : l.total ≡ sizes (take l.blob-index l.blobs);
  small : l.total ≤ 536862720 * l.blob-index;
}
