-- Nodes of the metadata by their bytes, and the inode of a blob by its root.
use Rattle.std.specs.Prelude.{ℕ, List, Bool, false, Result, Ok, Err}
use Rattle.spec_tree.specs.declared.Digest.{Digest}
use Rattle.spec_tree.specs.Order.{same_digest}
use Rattle.spec_record.specs.declared.node.Node.{Node}
use Rattle.spec_record.specs.declared.node.Node.TheVariants as nodes
use Rattle.spec_record.specs.declared.node_fault.NodeFault.{NodeFault}
use Rattle.spec_record.specs.Geometry.{node_map_in}
use Rattle.spec_record.specs.Node.{place_bytes}
use Rattle.bv_txn.specs.Metas.{MetaBlocks}

-- the 64 bytes of node k
abbrev pub bytes_at : MetaBlocks → ℕ → List ℕ
bytes_at m k = place_bytes (node_map_in m.geometry m.blocks) k

-- the node reads, and it is the inode of a blob with this root
abbrev pub is_inode_of : Digest → Result Node NodeFault → Bool
is_inode_of root (Ok nodes.Free) = false
is_inode_of root (Ok (nodes.Inode i)) = same_digest root i.root
is_inode_of root (Ok (nodes.Container c)) = false
is_inode_of root (Err f) = false
