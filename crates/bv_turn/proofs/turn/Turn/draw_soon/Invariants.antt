use Rattle.std.proofs.Common.{◌≡◌}
use Rattle.bv_turn.proofs.turn.Turn.draw_soon.Given as goal

abbrev pub invariant-loop : goal.invariant-loop
invariant-loop g l = record {
  this : l.share.seat.table_id ≡ l.fn.share.seat.table_id;
  session : l.share.session ≡ l.fn.share.session;
  same : l.share.seat.me ≡ l.fn.share.seat.me;
}
