use Rattle.std.proofs.Common.{◌≡◌, ◌<◌, ◌++◌, length}
use Rattle.std.specs.List.{AllByRecursion, flat_map}
use Rattle.bv_turn.specs.Kinds.{Idle}
use Rattle.bv_turn.specs.Tokens.{IsOf, IsIdle}
use Rattle.bv_turn.proofs.steps.gather.Given as goal

abbrev pub invariant-loop-share : goal.invariant-loop-share
invariant-loop-share g l = record {
  this : l.all.table_id ≡ l.turn.table.shared.table_id;
  idle : Idle l.all.me;
  some : 0 < length l.all.me.0.parts;
  left : AllByRecursion (λ x. IsOf l.turn x × IsIdle x) l.left.items;
  parts : flat_map (λ x. x.seat.me.0.parts) l.fn.shares.items ≡ flat_map (λ x. x.seat.me.0.parts) l.left.items ++ l.all.me.0.parts;
}

abbrev pub decreases-loop-share : goal.decreases-loop-share
decreases-loop-share g l = goal.left-loop-share g l
