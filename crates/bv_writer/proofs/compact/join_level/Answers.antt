use Rattle.std.proofs.Common.{◌≡◌, ℕ, ◌-◌, ◌*◌, ◌<◌, ◌≤◌, List, [], ◌++◌, length, take, get_or, ap, ◌∙◌, arith}
use Rattle.std.specs.Prelude.{min}
use Rattle.std.specs.Int.{div_ceil}
use Rattle.spec_tree.specs.Tree.{digest_block}
use Rattle.bv_writer.proofs.CompactLemmas.{block-is, join-more, join-all, length-all_blocks}
use Rattle.bv_writer.proofs.compact.join_level.Goals as goal

pub loop-block-preserved : goal.loop-block-preserved
loop-block-preserved c =
    let i = c.loop-block.block-index in let held = c.min-held.result in let out = c.loop-block.out.items in record {
      left = omega arith;
      joined = λ ds sized count is.
          let long : length c.args.blocks.now ≡ div_ceil (length ds) 256 = ap length is ∙ length-all_blocks ds in
          let low : i < div_ceil (length ds) 256 = omega arith in
          let block : get_or c.args.blocks.now i [] ≡ digest_block ds i = ap (λ bs. get_or bs i []) is ∙ block-is ds i [] low in
          let few : held ≡ min 256 (length ds - 256 * i) = omega arith in
          c.in_ok-join_block.ensures
          ∙ ap (λ (b : List ℕ). out ++ take (32 * held) b) block
          ∙ join-more ds i held c.args.out.now.items out sized few (c.loop-block.invariant.joined ds sized count is);
    }

pub returns : goal.returns
returns c = λ ds sized count is.
    let long : length c.args.blocks.now ≡ div_ceil (length ds) 256 = ap length is ∙ length-all_blocks ds in
    let high : div_ceil (length ds) 256 ≤ c.loop-block.block-index = omega arith in
    join-all ds c.loop-block.block-index c.args.out.now.items c.loop-block.out.items high (c.loop-block.invariant.joined ds sized count is)
