-- Nodes and metadata by hand: a blob of six data blocks and one of digests, in seven extents, in a
-- volume of sixteen data blocks.
use Rattle.std.specs.Prelude.{ℕ, zero, suc, ◌==◌, Bool, List, [], ◌∷◌, replicate, Result, Ok}
use Rattle.std.specs.List.{list_any}
use Rattle.spec_tree.specs.declared.Digest.{Digest}
use Rattle.spec_record.specs.declared.extent.Extent.{Extent}
use Rattle.spec_record.specs.declared.node.Node.{Node}
use Rattle.spec_record.specs.declared.node.Node.TheVariants as nodes
use Rattle.spec_record.specs.declared.node_fault.NodeFault.{NodeFault}
use Rattle.spec_record.specs.Node.{no_node}
use Rattle.spec_image.specs.Chain.{Nodes, BlobRecord}
use Rattle.spec_image.specs.Metadata.{Metadata}
use Rattle.spec_image.specs.WellFormed.{nodes_read, chains_read, containers_placed, blocks_apart, roots_apart, bits_right, counts_right}

-- an extent of one block
abbrev pub at : ℕ → Extent
at start = record { start = start; len = 1 }

-- the root of the blob
abbrev pub root : Digest
root = record { 0 = replicate 32 1 }

-- its inode, node 0, which leads to this node
abbrev pub inode : ℕ → Node
inode next = nodes.Inode (record {
  next = next;
  root = root;
  size = 49152;
  blocks = 7;
  extents = 7;
  first = at 9;
  version = 1;
})

-- its container, with this previous node, count and version, whose first extent begins at this
-- block
abbrev pub container : ℕ → ℕ → ℕ → ℕ → Node
container previous count version start = nodes.Container (record {
  next = no_node;
  previous = previous;
  count = count;
  extents = at start ∷ at 2 ∷ at 4 ∷ at 6 ∷ at 8 ∷ at 3 ∷ [];
  version = version;
})

-- the first at 0, the second at every other number
abbrev pub either_of : Node → Node → ℕ → Result Node NodeFault
either_of first second zero = Ok first
either_of first second (suc k) = Ok second

-- nodes 0 and 1
abbrev pub pair : Node → Node → Nodes
pair first second = record { count = 2; read = either_of first second }

-- what the chain from the inode reads
abbrev pub blob : BlobRecord
blob = record {
  root = root;
  size = 49152;
  version = 1;
  extents = at 9 ∷ at 5 ∷ at 2 ∷ at 4 ∷ at 6 ∷ at 8 ∷ at 3 ∷ [];
  nodes = 0 ∷ 1 ∷ [];
}

-- metadata of these nodes, in which these data blocks are marked, and so many blobs, blocks and
-- nodes are counted
abbrev pub metadata : Nodes → List ℕ → ℕ → ℕ → ℕ → Metadata
metadata nodes marked blobs used_blocks used_nodes = record {
  super = record {
    geometry = record { blocks = 16; nodes = 128; journal = 16; version = 1 };
    blobs = blobs;
    used_blocks = used_blocks;
    used_nodes = used_nodes;
  };
  nodes = nodes;
  bit_count = 20;
  bit = λ d. list_any (λ n. n == d) marked;
}

-- the blocks of the blob and data block 0
abbrev pub marks : List ℕ
marks = 0 ∷ 2 ∷ 3 ∷ 4 ∷ 5 ∷ 6 ∷ 8 ∷ 9 ∷ []

-- the inode and the container of the blob
abbrev pub nodes_of_blob : Nodes
nodes_of_blob = pair (inode 1) (container 0 6 1 5)

-- an empty blob
abbrev pub empty_inode : Node
empty_inode = nodes.Inode (record {
  next = no_node;
  root = root;
  size = 0;
  blocks = 0;
  extents = 0;
  first = record { start = 0; len = 0 };
  version = 1;
})

-- a blob of one block
abbrev pub small_inode : ℕ → Node
small_inode byte = nodes.Inode (record {
  next = no_node;
  root = record { 0 = replicate 32 byte };
  size = 1;
  blocks = 1;
  extents = 1;
  first = at 2;
  version = 1;
})

-- what each part says: nodes, chains, containers, blocks, roots, bits and counts
abbrev pub parts : Metadata → List Bool
parts m =
    nodes_read m ∷ chains_read m ∷ containers_placed m ∷ blocks_apart m ∷ roots_apart m
    ∷ bits_right m ∷ counts_right m ∷ []

-- well-formed metadata; in each of those below one part is wrong
abbrev pub good : Metadata
good = metadata nodes_of_blob marks 1 8 2

-- a container that no inode leads to
abbrev pub orphaned : Metadata
orphaned = metadata (pair empty_inode (container 0 6 1 5)) (0 ∷ []) 1 1 1

-- a data block in two extents
abbrev pub overlapping : Metadata
overlapping = metadata (pair (small_inode 1) (small_inode 2)) (0 ∷ 2 ∷ []) 2 2 2

-- two blobs with one root
abbrev pub twice : Metadata
twice = metadata (pair empty_inode empty_inode) (0 ∷ []) 2 1 2

-- a mark past the data blocks
abbrev pub marked_past : Metadata
marked_past = metadata nodes_of_blob (19 ∷ marks) 1 8 2

-- one block too few is counted
abbrev pub miscounted : Metadata
miscounted = metadata nodes_of_blob marks 1 7 2
