-- A node that is no inode adds no blob.
use Rattle.std.proofs.Common.{sym, ap, ◌∙◌}
use Rattle.spec_image.specs.WellFormed.{is_inode}
use Rattle.bv_node.specs.Chains.{nodes_of}
use Rattle.bv_txn.proofs.FaultLemmas.{no_record, as_node}
use Rattle.bv_txn.proofs.survey.Survey.add_node.Goals as goal

pub returns-in-Free-clause-blobs : goal.returns-in-Free-clause-blobs
returns-in-Free-clause-blobs c =
    no_record (nodes_of c.args.nodes.now c.args.version) c.args.blocks c.args.k c.args.self.now.blobs.items (ap is_inode (sym c.node_at.ensures ∙ c.in-Ok.is ∙ ap as_node c.in-Free.is))

pub returns-in-Container-clause-blobs : goal.returns-in-Container-clause-blobs
returns-in-Container-clause-blobs c =
    no_record (nodes_of c.args.nodes.now c.args.version) c.args.blocks c.args.k c.args.self.now.blobs.items (ap is_inode (sym c.node_at.ensures ∙ c.in-Ok.is ∙ ap as_node c.in-Container.is))

pub returns-in-Err-clause-blobs : goal.returns-in-Err-clause-blobs
returns-in-Err-clause-blobs c =
    no_record (nodes_of c.args.nodes.now c.args.version) c.args.blocks c.args.k c.args.self.now.blobs.items (ap is_inode (sym c.node_at.ensures ∙ c.in-Err.is))
