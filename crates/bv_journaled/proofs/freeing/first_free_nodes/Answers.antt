use Rattle.std.proofs.Common.{◌≡◌, ◌+◌, ◌∙◌, [], true, false, ap, sym, subst, arith, length, ◌++◌, ◌∷◌, length-append}
use Rattle.spec_record.specs.declared.geometry.Geometry.{Geometry}
use Rattle.spec_image.specs.Metadata.{Metadata}
use Rattle.bv_txn.specs.Metas.{metadata_of}
use Rattle.bv_journaled.proofs.FreeingLemmas.{FreeBelow, free_at, none_free, pass_by, add_free, so_many, all_of_them}
use Rattle.bv_journaled.proofs.freeing.first_free_nodes.Goals as goal
use Rattle.bv_journaled.proofs.freeing.first_free_nodes.Goals.{then-is_free+in_ok-push, else-is_free}

pub loop-node-init : goal.loop-node-init
loop-node-init c = record {
  below = subst (FreeBelow (metadata_of c.args.meta.now) 0) (sym c.new-free.ensures.items) (none_free (metadata_of c.args.meta.now));
  few = let none : length c.new-free.result.items ≡ 0 = ap length c.new-free.ensures.items in omega arith;
}

pub returns-then-len-count : goal.returns-then-len-count
returns-then-len-count c =
    let all : c.geometry-node-end.result.nodes ≡ c.args.meta.now.geometry.nodes = ap (λ (g : Geometry). g.nodes) c.geometry-node-end.ensures.value in
    so_many (metadata_of c.args.meta.now) c.loop-node.node c.args.count c.loop-node.free.items c.loop-node.invariant.below (omega arith) (omega arith)

pub loop-node-preserved : goal.loop-node-preserved
loop-node-preserved c =
    let m : Metadata = metadata_of c.args.meta.now in
    elim c.if-is_free.branch [
      | then-is_free+in_ok-push w ↦
          let t : free_at m c.loop-node.node ≡ true = sym c.is_free.ensures ∙ w.if-is_free.true in
          let items : c.if-is_free.free.items ≡ c.loop-node.free.items ++ c.loop-node.node ∷ [] = ap (λ v. v.items) w.free-is ∙ w.in_ok-push.ensures.items in
          let long : length c.if-is_free.free.items ≡ length c.loop-node.free.items + 1 = ap length items ∙ length-append c.loop-node.free.items (c.loop-node.node ∷ []) in
          record {
            below = subst (FreeBelow m (c.loop-node.node + 1)) (sym items) (add_free m c.loop-node.node c.loop-node.free.items c.loop-node.invariant.below t);
            few = omega arith;
          }
      | else-is_free w ↦
          let t : free_at m c.loop-node.node ≡ false = sym c.is_free.ensures ∙ w.if-is_free.false in
          let items : c.if-is_free.free.items ≡ c.loop-node.free.items = ap (λ v. v.items) w.free-is in
          record {
            below = subst (FreeBelow m (c.loop-node.node + 1)) (sym items) (pass_by m c.loop-node.node c.loop-node.free.items c.loop-node.invariant.below t);
            few = let long = ap length items in omega (arith, long);
          }
    ]

pub returns : goal.returns
returns c =
    let all : c.geometry-node-end.result.nodes ≡ c.args.meta.now.geometry.nodes = ap (λ (g : Geometry). g.nodes) c.geometry-node-end.ensures.value in
    all_of_them (metadata_of c.args.meta.now) c.loop-node.node c.args.count c.loop-node.free.items c.requires.formed c.loop-node.invariant.below (omega arith) c.requires.room c.loop-node.invariant.few
