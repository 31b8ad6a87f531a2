-- the blocks of the run so far are the boss's
use Rattle.std.proofs.Common.{◌≡◌, ◌+◌, ◌-◌, ◌≤◌, ◌++◌}
use Rattle.bv_claims.specs.Blocks.{consecutive}
use Rattle.bv_claims.specs.Tokens.{boss_owned, boss_room, IsBossOf}
use Rattle.bv_claims.proofs.boss.Boss.hold_run.Given as goal

abbrev pub invariant-loop-block : goal.invariant-loop-block
invariant-loop-block l = record {
  range : (l.start ≤ l.block) × (l.block ≤ l.start + l.len);
  table : IsBossOf l.claims l.self;
  owned : boss_owned l.self ≡ boss_owned l.initial.self ++ consecutive l.start (l.block - l.start);
  room : boss_room l.self + (l.block - l.start) ≡ boss_room l.initial.self;
}
