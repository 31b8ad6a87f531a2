use Rattle.std.proofs.Common.{ap, ◌∙◌, refl, arith}
use Rattle.bv_merkle.specs.TreeShape.{put_block}
use Rattle.bv_merkle.proofs.TreeShapeLemmas.{put_block-seen}
use Rattle.bv_merkle.proofs.kept_tree.KeptTree.keep.Goals as goal

pub returns-then-index-len : goal.returns-then-index-len
returns-then-index-len c =
    put_block-seen (λ v. v.items) c.self.inside.levels.items c.args.level c.args.index c.index_mut-blocks.result.now _ c.args.block.now
    (omega (arith, c.if-level-len.true, c.len.ensures)) c.index_mut-blocks.ensures.value refl
    ∙ ap (λ levels. put_block levels c.args.level c.args.index c.args.block.now) c.self.view_is
