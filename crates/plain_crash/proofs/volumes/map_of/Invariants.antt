use Rattle.std.proofs.Common.{◌≡◌, ◌≤◌, drop, length}
use Rattle.spec_image.specs.Blobs.{blob_map}
use Rattle.plain_crash.proofs.volumes.map_of.Given as goal

-- the map of the blobs behind those that are left
abbrev pub invariant-loop-left : goal.invariant-loop-left
invariant-loop-left l = record {
  within : l.left ≤ length l.records;
  map_is : l.found.entries ≡ blob_map (drop l.left l.records);
}

abbrev pub decreases-loop-left : goal.decreases-loop-left
decreases-loop-left l = l.left
