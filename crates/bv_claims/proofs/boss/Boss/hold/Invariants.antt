use Rattle.std.proofs.Common.{◌≡◌, ◌+◌, ◌++◌, take}
use Rattle.bv_claims.specs.Tokens.{boss_owned, boss_room, IsBossOf}
use Rattle.bv_claims.proofs.boss.Boss.hold.Given as goal

abbrev pub invariant-loop-block : goal.invariant-loop-block
invariant-loop-block l = record {
  table : IsBossOf l.claims l.self;
  owned : boss_owned l.self ≡ boss_owned l.initial.self ++ take l.block-index l.blocks;
  room : boss_room l.self + l.block-index ≡ boss_room l.initial.self;
}
