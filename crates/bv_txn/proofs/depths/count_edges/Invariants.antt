use Rattle.std.proofs.Common.{◌≡◌, ◌<◌, ◌+◌, ℕ, take, get_or, length}
use Rattle.std.specs.Prelude.{count_by}
use Rattle.bv_txn.specs.Surveys.{starts_at, ends_at}
use Rattle.bv_txn.proofs.depths.count_edges.Given as goal

-- the edges of the extents before this one are counted
abbrev pub invariant-loop-extent : goal.invariant-loop-extent
invariant-loop-extent l = record {
  starts_are : (d : ℕ) → d < length l.starts → get_or l.starts d 0 ≡ get_or l.fn.starts d 0 + count_by (starts_at d) (take l.extent-index l.extents);
  ends_are : (d : ℕ) → d < length l.ends → get_or l.ends d 0 ≡ get_or l.fn.ends d 0 + count_by (ends_at d) (take l.extent-index l.extents);
}
