use Rattle.std.proofs.Common.{◌≡◌, true, false, Ok, ap, sym, ◌∙◌, is_eq}
use Rattle.spec_tree.specs.Order.{same_digest}
use Rattle.spec_record.specs.declared.geometry.Geometry.{Geometry}
use Rattle.spec_record.specs.declared.node.Node.{Node}
use Rattle.bv_journaled.specs.Inodes.{bytes_at}
use Rattle.bv_journaled.proofs.ReadingLemmas.{other_root, same_root}
use Rattle.bv_journaled.proofs.reading.is_inode_of.Goals as goal

pub returns-then-not-is_eq : goal.returns-then-not-is_eq
returns-then-not-is_eq c =
    let differ : same_digest c.args.root.now c.root_in.result ≡ false = ap is_eq (sym c.cmp.ensures) ∙ sym c.is_eq.ensures ∙ c.if-not-is_eq.true in
    other_root c.args.root.now c.root_in.result c.place_of-place.result.now (bytes_at c.args.meta.now c.args.node) c.args.meta.now.geometry.version c.place_of-place.ensures c.root_in.ensures differ

pub returns-in-Ok-Inode : goal.returns-in-Ok-Inode
returns-in-Ok-Inode c =
    let equal : same_digest c.args.root.now c.root_in.result ≡ true = ap is_eq (sym c.cmp.ensures) ∙ sym c.is_eq.ensures ∙ c.if-not-is_eq.false in
    let version : c.geometry.result.version ≡ c.args.meta.now.geometry.version = ap (λ (g : Geometry). g.version) c.geometry.ensures.value in
    same_root c.args.root.now c.root_in.result c.place_of-place.result.now (bytes_at c.args.meta.now c.args.node) c.geometry.result.version c.args.meta.now.geometry.version c.read_node.result c.in-Ok-Inode.field-0-0
    c.place_of-place.ensures c.root_in.ensures equal version c.read_node.ensures (c.in-Ok-Inode.is ∙ ap (λ (n : Node). Ok n) c.in-Ok-Inode.field-0-is)
