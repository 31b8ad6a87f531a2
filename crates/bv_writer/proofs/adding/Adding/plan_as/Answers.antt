use Rattle.std.proofs.Common.{ℕ, List, length, refl, ap, ◌∙◌}
use Rattle.spec_tree.specs.Tree.{root_of, tree_blocks_of}
use Rattle.bv_merkle.specs.Built.{Built}
use Rattle.bv_writer.specs.Blocks.{data_of, placed, tree_blocks}
use Rattle.bv_writer.proofs.PlacedLemmas.{length-tree_blocks}
use Rattle.bv_writer.proofs.adding.Adding.plan_as.Goals as goal

pub invariant_of-result : goal.invariant_of-result
invariant_of-result c =
    ap length c.in_ok-tree.ensures ∙ length-tree_blocks c.args.version c.deref-2.result.now
    ∙ ap (λ (v : List ℕ). tree_blocks_of c.args.version (length v)) c.deref-2.ensures.value

pub returns : goal.returns
returns c = record {
  of_version = refl;
  of_root = ap (λ (b : Built). b.root) c.built.view_is ∙ c.in_ok-built.ensures.root ∙ ap root_of c.deref.ensures.value;
  of_size = refl;
  of_blocks = ap (λ (t : List (List ℕ)). placed c.args.version t (data_of c.args.bytes.items)) (c.in_ok-tree.ensures ∙ ap (tree_blocks c.args.version) c.deref-2.ensures.value);
}
