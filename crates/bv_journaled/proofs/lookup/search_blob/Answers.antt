use Rattle.std.proofs.Common.{◌≡◌, ℕ, true, false, refl, ap, sym, ◌∙◌, arith}
use Rattle.std.specs.Prelude.{find, is_some}
use Rattle.spec_record.specs.declared.geometry.Geometry.{Geometry}
use Rattle.spec_image.specs.Metadata.{Metadata}
use Rattle.spec_image.specs.WellFormed.{records_below}
use Rattle.spec_meta.proofs.MapLemmas.{named}
use Rattle.bv_txn.specs.Metas.{metadata_of}
use Rattle.bv_journaled.proofs.LookupLemmas.{found_here, not_here}
use Rattle.bv_journaled.proofs.lookup.search_blob.Goals as goal

pub loop-node-init : goal.loop-node-init
unfolding records_below
loop-node-init c = refl

pub returns-then-is_some : goal.returns-then-is_some
returns-then-is_some c =
    let m : Metadata = metadata_of c.args.meta.now in
    let all : c.geometry-node-end.result.nodes ≡ c.args.meta.now.geometry.nodes = ap (λ (g : Geometry). g.nodes) c.geometry-node-end.ensures.value in
    let some : is_some c.in_ok-found.found ≡ true = cc in
    found_here (named c.args.root.now) m.nodes m.super.geometry.blocks c.loop-node.node m.nodes.count c.in_ok-found.found (omega arith) c.loop-node.invariant c.in_ok-found.ensures some

pub loop-node-preserved : goal.loop-node-preserved
loop-node-preserved c =
    let m : Metadata = metadata_of c.args.meta.now in
    let none : is_some c.in_ok-found.found ≡ false = cc in
    not_here (named c.args.root.now) m.nodes m.super.geometry.blocks c.loop-node.node c.in_ok-found.found c.loop-node.invariant c.in_ok-found.ensures none

pub returns : goal.returns
returns c =
    let m : Metadata = metadata_of c.args.meta.now in
    let all : c.geometry-node-end.result.nodes ≡ c.args.meta.now.geometry.nodes = ap (λ (g : Geometry). g.nodes) c.geometry-node-end.ensures.value in
    let end : c.loop-node.node ≡ m.nodes.count = omega arith in
    sym (ap (λ (n : ℕ). find (named c.args.root.now) (records_below m.nodes m.super.geometry.blocks n)) (sym end) ∙ c.loop-node.invariant)
