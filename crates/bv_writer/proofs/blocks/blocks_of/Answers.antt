use Rattle.std.proofs.Common.{ℕ, List, [], ◌∷◌, ◌++◌, map, ap, sym, ◌∙◌, arith}
use Rattle.std.specs.List.{range_with_len}
use Rattle.std.proofs.lemmas.List.FromFn.{map-range_with_len_more}
use Rattle.spec_tree.specs.Tree.{filled, piece}
use Rattle.bv_writer.proofs.blocks.blocks_of.Goals as goal

pub loop-i-preserved : goal.loop-i-preserved
loop-i-preserved c =
    let i = c.loop-i.i in let cut : ℕ → List ℕ = λ k. filled (piece c.args.bytes.now k) in
    c.in_ok-push.ensures.items
    ∙ ap (λ (xs : List (List ℕ)). xs ++ c.block_of.result ∷ []) c.loop-i.invariant
    ∙ ap (λ (b : List ℕ). map cut (range_with_len 0 i) ++ b ∷ []) c.block_of.ensures
    ∙ sym (map-range_with_len_more cut 0 i i (omega arith))
