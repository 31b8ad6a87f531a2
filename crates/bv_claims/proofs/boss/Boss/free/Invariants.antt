use Rattle.std.proofs.Common.{◌≡◌, ◌+◌, ℕ, take}
use Rattle.bv_claims.specs.Blocks.{times}
use Rattle.bv_claims.specs.Tokens.{boss_owned, boss_room, IsBossOf}
use Rattle.bv_claims.proofs.boss.Boss.free.Given as goal

abbrev pub invariant-loop-block : goal.invariant-loop-block
invariant-loop-block l = record {
  table : IsBossOf l.claims l.self;
  owned : (b : ℕ) → times b (boss_owned l.initial.self) ≡ times b (boss_owned l.self) + times b (take l.block-index l.blocks);
  room : boss_room l.self ≡ boss_room l.initial.self + l.block-index;
}
