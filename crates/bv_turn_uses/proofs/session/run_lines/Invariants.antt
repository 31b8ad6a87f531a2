use Rattle.std.proofs.Common.{◌≡◌, take}
use Rattle.bv_turn.specs.Tokens.{IsOf, IsIdle, session_of, list_of, basis_of}
use Rattle.bv_turn_uses.specs.Events.{events_of}
use Rattle.bv_turn_uses.proofs.session.run_lines.Given as goal

abbrev pub invariant-loop-line : goal.invariant-loop-line
invariant-loop-line g l = record {
  this : IsOf l.turn l.share;
  idle : IsIdle l.share;
  session : session_of l.share ≡ session_of l.fn.share;
  basis : basis_of l.share ≡ basis_of l.fn.share;
  list : list_of l.share ≡ events_of (session_of l.fn.share) (take l.line-index l.script.lines.items);
}
