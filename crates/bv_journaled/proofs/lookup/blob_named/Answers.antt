use Rattle.std.proofs.Common.{sym, ◌∙◌}
use Rattle.spec_image.specs.Metadata.{Metadata}
use Rattle.bv_txn.specs.Metas.{metadata_of}
use Rattle.bv_journaled.proofs.LookupLemmas.{named_here, unnamed_here}
use Rattle.bv_journaled.proofs.PlaceLemmas.{if_ok_from}
use Rattle.bv_journaled.proofs.lookup.blob_named.Goals as goal

pub returns-then-not-is_inode_of : goal.returns-then-not-is_inode_of
returns-then-not-is_inode_of c =
    let m : Metadata = metadata_of c.args.meta.now in
    unnamed_here c.args.root.now m.nodes m.super.geometry.blocks c.args.node (sym c.is_inode_of.ensures ∙ c.if-not-is_inode_of.true)

pub returns : goal.returns
returns c =
    let m : Metadata = metadata_of c.args.meta.now in
    if_ok_from c.blob_of.result _ _
    (λ found is. named_here c.args.root.now m.nodes m.super.geometry.blocks c.args.node found (sym c.is_inode_of.ensures ∙ c.if-not-is_inode_of.false) is)
    c.blob_of.ensures
