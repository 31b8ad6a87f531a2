use Rattle.std.proofs.Common.{◌≡◌, ◌-◌, ◌≤◌, []}
use Rattle.bv_claims.specs.Search.{HasSearched}
use Rattle.bv_claims.proofs.claims.Claims.claim_range.Given as goal

abbrev pub invariant-loop-next : goal.invariant-loop-next
invariant-loop-next l = record {
  table : l.seat.table_id ≡ l.initial.seat.table_id;
  empty : l.seat.me.1 ≡ [];
  range : (l.from ≤ l.next) × (l.next ≤ l.to);
  tied : l.tally.left ≡ l.seat.me.0.budget;
  searched : HasSearched l.from l.next l.initial.seat.me.0 l.initial.tally.gained.items l.seat.me.0 l.tally.gained.items;
}

abbrev pub decreases-loop-next : goal.decreases-loop-next
decreases-loop-next l = l.to - l.next
