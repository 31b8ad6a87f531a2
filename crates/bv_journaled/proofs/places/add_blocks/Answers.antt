use Rattle.std.proofs.Common.{◌+◌, ℕ, List, [], ◌∷◌, ◌++◌, ap, sym, ◌∙◌}
use Rattle.std.proofs.lemmas.List.{append_assoc}
use Rattle.std.specs.List.{range_with_len}
use Rattle.bv_journaled.proofs.PlaceLemmas.{range_more}
use Rattle.bv_journaled.proofs.places.add_blocks.Goals as goal

pub loop-index-preserved : goal.loop-index-preserved
loop-index-preserved c =
    let start : ℕ = c.args.extent.now.start in
    let i : ℕ = c.loop-index.index in
    let old : List ℕ = c.args.blocks.now.items in
    c.in_ok-push.ensures.items ∙ ap (λ (bs : List ℕ). bs ++ (start + i) ∷ []) c.loop-index.invariant
    ∙ append_assoc old (range_with_len start i) ((start + i) ∷ [])
    ∙ ap (λ (bs : List ℕ). old ++ bs) (sym (range_more start i))
