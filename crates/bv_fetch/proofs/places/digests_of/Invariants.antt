use Rattle.std.proofs.Common.{◌≡◌, ◌≤◌, ◌*◌, ◌^◌}
use Rattle.std.specs.List.{range_with_len, sum_by}
use Rattle.spec_tree.specs.Tree as T
use Rattle.bv_fetch.proofs.places.digests_of.Given as goal

-- the digests of the levels so far
abbrev pub invariant-loop-ahead : goal.invariant-loop-ahead
invariant-loop-ahead l = record {
  value : l.digests ≡ sum_by (T.digests_at l.size) (range_with_len l.first l.ahead);
  few : l.digests ≤ 2 ^ 51 * l.ahead;
}
