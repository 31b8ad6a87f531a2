use Rattle.std.proofs.Common.{ℕ, ◌++◌, [], ◌∷◌, length, map, ap, ◌∙◌, arith}
use Rattle.std.proofs.lemmas.List.{map-append}
use Rattle.bv_merkle.proofs.TreeShapeLemmas.{shape-seen, growing-zero, growing-more, growing-top}
use Rattle.bv_merkle.proofs.kept_tree.KeptTree.new.Goals as goal

pub loop-digests-init : goal.loop-digests-init
loop-digests-init c =
    growing-zero _ _ _ (omega (arith, c.max-digests.ensures, c.div_ceil.ensures)) (ap (map (λ v. length v.items)) c.new-levels.ensures.items)

pub loop-digests-preserved : goal.loop-digests-preserved
loop-digests-preserved c =
    growing-more _ _ _ _ _ c.loop-digests.invariant c.loop-digests-test.true c.div_ceil-digests.ensures
    (ap (map (λ v. length v.items)) c.in_ok-push.ensures.items
    ∙ map-append (λ v. length v.items) c.loop-digests.levels.items _
    ∙ ap (λ (n : ℕ). map (λ v. length v.items) c.loop-digests.levels.items ++ n ∷ []) c.in_ok-blocks.ensures)

pub returns : goal.returns
returns c = shape-seen (λ v. v.items) _ ∙ growing-top _ _ _ c.loop-digests.invariant c.loop-digests-test.false
