use Rattle.std.proofs.Common.{◌≡◌, ℕ, List, ◌++◌, length, ap, sym, subst, ◌∙◌, arith, rules}
use Rattle.std.specs.Prelude.{IfOk}
use Rattle.spec_tree.specs.Tree.{level_of, levels_of}
use Rattle.spec_tree.proofs.SizesLemmas.{digests_at-zero, digests_at-more}
use Rattle.spec_tree.proofs.TreeLemmas.{length-level_of}
use Rattle.bv_merkle.specs.Levels.{all_blocks}
use Rattle.bv_writer.specs.Blocks.{data_of, digest_bytes, digests_below}
use Rattle.bv_writer.proofs.CompactLemmas.{data_of-digests, digests_of, digests_of-more, digests_of-sized, level_of-sized, row-is, rows-are}
use Rattle.bv_writer.proofs.compact.compact.Goals as goal

pub loop-blocks-init : goal.loop-blocks-init
loop-blocks-init c = record {
  count = omega (arith, digests_at-zero (length c.args.bytes.now));
  joined = search rules;
}

pub loop-blocks-preserved : goal.loop-blocks-preserved
loop-blocks-preserved c =
    let bytes = c.args.bytes.now in let i = c.loop-blocks.blocks-index in let level = level_of bytes i in
    let blocks : c.as_slice.result.now ≡ all_blocks level =
    c.as_slice.ensures.value ∙ row-is _ c.args.levels.now bytes i c.blocks-item.result c.requires c.loop-blocks-test.true c.blocks-item.is in record {
      count = omega (arith, digests_at-more (length bytes) i, c.loop-blocks.invariant.count);
      joined = c.in_ok-join_level.ensures level (level_of-sized bytes i) (length-level_of bytes i ∙ sym c.loop-blocks.invariant.count) blocks
          ∙ ap (λ (xs : List ℕ). xs ++ digest_bytes level) c.loop-blocks.invariant.joined
          ∙ digests_of-more bytes i;
    }

pub returns : goal.returns
returns c =
    let bytes = c.args.bytes.now in
    let long = rows-are _ c.args.levels.now bytes c.requires in
    let last : c.loop-blocks.blocks-index ≡ levels_of (length bytes) = omega (arith, long) in
    let all : data_of c.deref.result.now ≡ all_blocks (digests_below bytes) =
    ap data_of (c.deref.ensures.value ∙ c.loop-blocks.invariant.joined ∙ ap (λ (n : ℕ). digest_bytes (digests_of bytes n)) last)
    ∙ data_of-digests (digests_below bytes) (digests_of-sized bytes (levels_of (length bytes))) in
    subst (λ (xs : List (List ℕ)). IfOk c.blocks_of.result (λ blocks. blocks.items ≡ xs)) all c.blocks_of.ensures
