use Rattle.std.proofs.Common.{◌≡◌, ◌<◌, ◌≤◌, ℕ, get_or, length}
use Rattle.spec_image.specs.WellFormed.{extents_with}
use Rattle.bv_txn.specs.Surveys.{extents_that, starts_at, reaches}
use Rattle.bv_txn.proofs.depths.fill_depths.Given as goal

-- the depths before this block are there, the starts from it on, and the last depth
abbrev pub invariant-loop-d : goal.invariant-loop-d
invariant-loop-d l = record {
  depth_is : l.depth ≡ extents_that (reaches l.d) l.blobs;
  before : (d : ℕ) → d < l.d → get_or l.depths d 0 ≡ extents_with l.blobs d;
  behind : (d : ℕ) → l.d ≤ d → d < length l.depths → get_or l.depths d 0 ≡ extents_that (starts_at d) l.blobs;
}
