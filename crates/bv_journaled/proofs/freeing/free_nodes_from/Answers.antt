use Rattle.std.proofs.Common.{◌≡◌, ◌+◌, ◌∙◌, [], true, ap, sym, subst, arith, length, ◌++◌, ◌∷◌, length-append}
use Rattle.spec_record.specs.declared.geometry.Geometry.{Geometry}
use Rattle.spec_image.specs.Metadata.{Metadata}
use Rattle.bv_txn.specs.Metas.{metadata_of}
use Rattle.bv_journaled.proofs.FreeingLemmas.{free_at}
use Rattle.bv_journaled.proofs.HintLemmas.{SomeFree, are_free, no_nodes, pass_one, add_one}
use Rattle.bv_journaled.proofs.freeing.free_nodes_from.Goals as goal
use Rattle.bv_journaled.proofs.freeing.free_nodes_from.Goals.{then-is_free+in_ok-push, else-is_free}

pub loop-node-init : goal.loop-node-init
loop-node-init c = record {
  some = subst (SomeFree (metadata_of c.args.meta.now) c.args.from) (sym c.new-free.ensures.items) (no_nodes (metadata_of c.args.meta.now) c.args.from);
  few = let none : length c.new-free.result.items ≡ 0 = ap length c.new-free.ensures.items in omega arith;
}

pub returns-then-len-count-clause-free : goal.returns-then-len-count-clause-free
returns-then-len-count-clause-free c = are_free (metadata_of c.args.meta.now) c.loop-node.node c.loop-node.free.items c.loop-node.invariant.some

pub loop-node-preserved : goal.loop-node-preserved
loop-node-preserved c =
    let m : Metadata = metadata_of c.args.meta.now in
    let all : c.geometry-node-end.result.nodes ≡ c.args.meta.now.geometry.nodes = ap (λ (g : Geometry). g.nodes) c.geometry-node-end.ensures.value in
    elim c.if-is_free.branch [
      | then-is_free+in_ok-push w ↦
          let t : free_at m c.loop-node.node ≡ true = sym c.is_free.ensures ∙ w.if-is_free.true in
          let items : c.if-is_free.free.items ≡ c.loop-node.free.items ++ c.loop-node.node ∷ [] = ap (λ v. v.items) w.free-is ∙ w.in_ok-push.ensures.items in
          let long : length c.if-is_free.free.items ≡ length c.loop-node.free.items + 1 = ap length items ∙ length-append c.loop-node.free.items (c.loop-node.node ∷ []) in
          record {
            some = subst (SomeFree m (c.loop-node.node + 1)) (sym items) (add_one m c.loop-node.node c.loop-node.free.items c.loop-node.invariant.some (omega arith) t);
            few = omega arith;
          }
      | else-is_free w ↦
          let items : c.if-is_free.free.items ≡ c.loop-node.free.items = ap (λ v. v.items) w.free-is in
          record {
            some = subst (SomeFree m (c.loop-node.node + 1)) (sym items) (pass_one m c.loop-node.node c.loop-node.free.items c.loop-node.invariant.some);
            few = let long = ap length items in omega (arith, long);
          }
    ]

pub returns-clause-free : goal.returns-clause-free
returns-clause-free c = are_free (metadata_of c.args.meta.now) c.loop-node.node c.loop-node.free.items c.loop-node.invariant.some
