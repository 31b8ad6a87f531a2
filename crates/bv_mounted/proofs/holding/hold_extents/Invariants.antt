use Rattle.std.proofs.Common.{◌≡◌, ◌+◌, ◌++◌, length, take}
use Rattle.spec_image.specs.Stored.{blocks_of}
use Rattle.bv_claims.specs.Tokens.{IsBossOf, boss_owned, boss_room}
use Rattle.bv_mounted.proofs.holding.hold_extents.Given as goal

-- the blocks of the extents so far are the boss's
abbrev pub invariant-loop-extent : goal.invariant-loop-extent
invariant-loop-extent l = record {
  table : IsBossOf l.claims l.boss;
  owned : boss_owned l.boss ≡ boss_owned l.fn.boss ++ blocks_of (take l.extent-index l.extents);
  room : boss_room l.boss + length (blocks_of (take l.extent-index l.extents)) ≡ boss_room l.fn.boss;
}
