-- The edges so far and those of one blob more are at most the extents of all blobs.
use Rattle.std.proofs.Common.{length, ap, ◌∙◌, arith}
use Rattle.std.proofs.lemmas.List.Sums.{sum_by_more_le_part, count_by-le-length}
use Rattle.std.specs.Prelude.{count_by}
use Rattle.spec_image.specs.Chain.{BlobRecord}
use Rattle.bv_txn.specs.Surveys.{starts_at, ends_at}
use Rattle.bv_txn.proofs.depths.count_all_edges.Goals as goal

pub count_edges-requires-clause-starts_few : goal.count_edges-requires-clause-starts_few
count_edges-requires-clause-starts_few c d lt =
    let part = sum_by_more_le_part (λ b. count_by (starts_at d) b.extents) (λ b. length b.extents) c.args.blobs.now c.loop-blob.blob-index c.blob-item.result c.loop-blob-test.true (λ b. count_by-le-length (starts_at d) b.extents) in
    let long = ap length c.extents.ensures ∙ ap (λ (b : BlobRecord). length b.extents) c.blob-item.is in
    omega (arith, part, long, c.loop-blob.invariant.starts_are d lt, c.requires.few)

pub count_edges-requires-clause-ends_few : goal.count_edges-requires-clause-ends_few
count_edges-requires-clause-ends_few c d lt =
    let part = sum_by_more_le_part (λ b. count_by (ends_at d) b.extents) (λ b. length b.extents) c.args.blobs.now c.loop-blob.blob-index c.blob-item.result c.loop-blob-test.true (λ b. count_by-le-length (ends_at d) b.extents) in
    let long = ap length c.extents.ensures ∙ ap (λ (b : BlobRecord). length b.extents) c.blob-item.is in
    omega (arith, part, long, c.loop-blob.invariant.ends_are d lt, c.requires.few)
