use Rattle.std.proofs.Common.{◌≡◌, ◌<◌, ℕ, take, get_or, length}
use Rattle.bv_txn.specs.Surveys.{extents_that, starts_at, ends_at}
use Rattle.bv_txn.proofs.depths.count_all_edges.Given as goal

-- the edges of the blobs before this one are counted
abbrev pub invariant-loop-blob : goal.invariant-loop-blob
invariant-loop-blob l = record {
  starts_are : (d : ℕ) → d < length l.starts → get_or l.starts d 0 ≡ extents_that (starts_at d) (take l.blob-index l.blobs);
  ends_are : (d : ℕ) → d < length l.ends → get_or l.ends d 0 ≡ extents_that (ends_at d) (take l.blob-index l.blobs);
}
