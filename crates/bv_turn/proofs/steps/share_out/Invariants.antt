use Rattle.std.proofs.Common.{◌≡◌, ℕ, ◌-◌, ◌<◌, length, vec_len, vec_capacity}
use Rattle.bv_turn.specs.Kinds.{Idle}
use Rattle.bv_turn.specs.Tokens.{FreshAt, first_of}
use Rattle.bv_turn.specs.Views.{fresh}
use Rattle.bv_turn.proofs.steps.share_out.Given as goal

abbrev pub invariant-loop-session : goal.invariant-loop-session
invariant-loop-session g l = record {
  left : l.seat.me.0.parts ≡ fresh l.session (l.seats - l.session) (g.T.Keeps.basis (first_of l.turn));
  idle : Idle l.seat.me;
  this : l.seat.table_id ≡ l.turn.table.shared.table_id;
  room : (length l.shares.items ≡ l.session) × (vec_len l.shares ≡ l.session) × (vec_capacity l.shares ≡ vec_capacity l.fn.shares);
  new : (k : ℕ) → k < l.session → FreshAt l.turn (g.T.Keeps.basis (first_of l.turn)) l.shares.items k;
}
