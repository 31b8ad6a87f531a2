use Rattle.std.proofs.Common.{◌≡◌, []}
use Rattle.bv_claims.specs.Search.{HasSearched}
use Rattle.bv_claims.proofs.claims.Claims.claim_in_word.Given as goal

abbrev pub invariant-loop-block : goal.invariant-loop-block
invariant-loop-block l = record {
  table : l.seat.table_id ≡ l.initial.seat.table_id;
  empty : l.seat.me.1 ≡ [];
  tied : l.tally.left ≡ l.seat.me.0.budget;
  searched : HasSearched l.from l.block l.initial.seat.me.0 l.initial.tally.gained.items l.seat.me.0 l.tally.gained.items;
}
