use Rattle.std.proofs.Common.{◌≡◌, ◌*◌, length, take}
use Rattle.sha2.specs.Sha256.{digest_bytes}
use Rattle.bv_lanes.specs.Lanes.{lane_state}
use Rattle.bv_lanes.proofs.hashing.lane_digest.Given as goal

abbrev pub invariant-words : goal.invariant-words
invariant-words l = record {
  long : length l.digest ≡ 32;
  made : take (4 * l.i) l.digest ≡ digest_bytes (lane_state l.lane l.state) l.i;
}
