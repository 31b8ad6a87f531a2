-- One level more.
use Rattle.std.proofs.Common.{◌≡◌, ◌+◌, ℕ, add-one, ap, ◌∙◌, arith}
use Rattle.std.specs.List.{range_with_len, sum_by}
use Rattle.spec_tree.specs.Tree.{digests_at}
use Rattle.spec_tree.proofs.SizesLemmas.{sum_levels-more}
use Rattle.bv_fetch.proofs.places.digests_of.Goals as goal

pub loop-ahead-preserved : goal.loop-ahead-preserved
loop-ahead-preserved c =
    let a = c.args in
    let i = c.loop-ahead.ahead in
    let more : sum_by (digests_at a.size) (range_with_len a.first (i + 1)) ≡ sum_by (digests_at a.size) (range_with_len a.first i) + digests_at a.size (a.first + i) =
    ap (λ (n : ℕ). sum_by (digests_at a.size) (range_with_len a.first n)) (add-one i) ∙ sum_levels-more (digests_at a.size) a.first i in
    record {
      value = omega (arith, more, c.loop-ahead.invariant.value, c.digests_at-digests.ensures.value);
      few = omega (arith, c.loop-ahead.invariant.few, c.digests_at-digests.ensures.few);
    }
