use Rattle.std.proofs.Common.{◌≡◌, ◌+◌, length, take}
use Rattle.bv_claims.specs.Tokens.{IsBossOf, boss_owned, boss_room}
use Rattle.bv_mounted.specs.Mounts.{blocks_of_all}
use Rattle.bv_mounted.proofs.holding.hold_blobs.Given as goal

-- the blocks of the blobs so far are the boss's
abbrev pub invariant-loop-blob : goal.invariant-loop-blob
invariant-loop-blob l = record {
  table : IsBossOf l.claims l.boss;
  owned : boss_owned l.boss ≡ blocks_of_all (take l.blob-index l.blobs);
  room : boss_room l.boss + length (blocks_of_all (take l.blob-index l.blobs)) ≡ boss_room l.fn.boss;
}
