-- the blocks of the run so far are no longer the boss's
use Rattle.std.proofs.Common.{◌≡◌, ◌+◌, ◌-◌, ◌≤◌, ℕ}
use Rattle.bv_claims.specs.Blocks.{times, consecutive}
use Rattle.bv_claims.specs.Tokens.{boss_owned, boss_room, IsBossOf}
use Rattle.bv_claims.proofs.boss.Boss.free_run.Given as goal

abbrev pub invariant-loop-block : goal.invariant-loop-block
invariant-loop-block l = record {
  range : (l.start ≤ l.block) × (l.block ≤ l.start + l.len);
  table : IsBossOf l.claims l.self;
  owned : (b : ℕ) → times b (boss_owned l.initial.self) ≡ times b (boss_owned l.self) + times b (consecutive l.start (l.block - l.start));
  room : boss_room l.self ≡ boss_room l.initial.self + (l.block - l.start);
}
