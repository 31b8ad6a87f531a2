-- The chain of nodes that a blob has, from its inode on (this project's profile).
--
-- A blob with e extents has its first in the inode and six in each container behind it but the
-- last. The faults come in the order of the tests; `Count` says the two numbers of its test,
-- `BadLink` and `Extent` name the node that holds the link or the extent.
use Rattle.std.specs.Prelude.{ℕ, zero, suc, ◌+◌, ◌-◌, min, List, [], ◌∷◌, ◌++◌, take, sum_by, Bool, true, false, ◌==◌, nat_le, nat_lt, ◌&&◌, ◌||◌, if◌then◌else◌, Result, Ok, Err}
use Rattle.spec_tree.specs.Tree.{need_of}
use Rattle.spec_tree.specs.declared.Digest.{Digest}
use Rattle.spec_record.specs.declared.extent.Extent.{Extent}
use Rattle.spec_record.specs.declared.inode.Inode.{Inode}
use Rattle.spec_record.specs.declared.container.Container.{Container}
use Rattle.spec_record.specs.declared.node.Node.{Node}
use Rattle.spec_record.specs.declared.node.Node.TheVariants as nodes
use Rattle.spec_record.specs.declared.node_fault.NodeFault.{NodeFault}
use Rattle.spec_record.specs.declared.node_fault.NodeFault.TheVariants as faults
use Rattle.spec_record.specs.Node.{no_node, nodes_for}
use Rattle.spec_record.specs.Extent.{is_extent}

-- the nodes of a volume: how many there are, and what each reads as
pub record Nodes : Type 0 where
  pub count : ℕ
  pub read : ℕ → Result Node NodeFault

-- what the chain from an inode stands for: a blob, its extents in order, and its nodes in order
pub record BlobRecord : Type 0 where
  pub root : Digest
  pub size : ℕ
  pub version : ℕ
  pub extents : List Extent
  pub nodes : List ℕ

-- where a fault came, it is the answer
infixl 10 ◌>>=◌
abbrev pub ◌>>=◌
    : {A B : Type 0} → Result A NodeFault → (A → Result B NodeFault) → Result B NodeFault
(Ok x) >>= f = f x
(Err e) >>= f = Err e

-- the fault comes where the test fails
abbrev pub wants : Bool → NodeFault → Result Unit NodeFault
wants true e = Ok tt
wants false e = Err e

-- the blocks of these extents
abbrev pub lengths : List Extent → ℕ
lengths es = sum_by (λ e. e.len) es

-- these extents of node k, from index i on, are in their ranges
abbrev pub check_extents : ℕ → ℕ → ℕ → List Extent → Result Unit NodeFault
check_extents blocks k i [] = Ok tt
check_extents blocks k i (e ∷ es) =
    if is_extent blocks e then check_extents blocks k (i + 1) es else Err (faults.Extent k i)

-- the inode that a node is
abbrev pub as_inode : Node → Result Inode NodeFault
as_inode nodes.Free = Err faults.NotInode
as_inode (nodes.Inode i) = Ok i
as_inode (nodes.Container c) = Err faults.NotInode

-- the container of this version that a node is, with this previous node
abbrev pub as_next : ℕ → ℕ → Result Node NodeFault → Result Container NodeFault
as_next version previous (Err e) = Err (faults.BadLink previous)
as_next version previous (Ok nodes.Free) = Err (faults.BadLink previous)
as_next version previous (Ok (nodes.Inode i)) = Err (faults.BadLink previous)
as_next version previous (Ok (nodes.Container c)) =
    if (c.version == version) && (c.previous == previous)
    then Ok c
    else Err (faults.BadLink previous)

-- the container that a link of the previous node leads to
abbrev pub follow : Nodes → ℕ → ℕ → ℕ → Result Container NodeFault
follow ns version previous link =
    if nat_lt link ns.count
    then as_next version previous (ns.read link)
    else Err (faults.BadLink previous)

-- the extents and the nodes of so many containers behind the previous node, which have so many
-- extents in all: each but the last has six
unfoldable pub walk
    : Nodes → ℕ → ℕ → ℕ → ℕ → ℕ → ℕ → Result (List Extent × List ℕ) NodeFault
walk ns blocks version zero extents previous link =
    if link == no_node then Ok ([], []) else Err (faults.BadLink previous)
walk ns blocks version (suc more) extents previous link = do
  c ← follow ns version previous link
  full ← wants (c.count == min 6 extents) (faults.Count c.count (min 6 extents))
  good ← check_extents blocks link 0 (take (min 6 extents) c.extents)
  rest ← walk ns blocks version more (extents - 6) link c.next
  Ok (take (min 6 extents) c.extents ++ rest.0, link ∷ rest.1)

-- the counts of an inode agree with its size and with each other
unfoldable pub check_counts : Inode → Result Unit NodeFault
check_counts i = do
  let need : ℕ = need_of i.version i.size
  needed ← wants (i.blocks == need) (faults.Count i.blocks need)
  few ← wants (nat_le i.blocks 65535) (faults.Count i.blocks 65535)
  some ← wants ((i.blocks == 0) || nat_le 1 i.extents) (faults.Count 0 1)
  wants (nat_le i.extents i.blocks) (faults.Count i.extents i.blocks)

-- the first extent, where there is one
abbrev pub first_extent : Inode → List Extent
first_extent i = if i.extents == 0 then [] else (i.first ∷ [])

-- the blob that the chain from node k reads, or its first fault, in a volume of so many data blocks
unfoldable pub chain : Nodes → ℕ → ℕ → Result BlobRecord NodeFault
chain ns blocks k = do
  node ← ns.read k
  i ← as_inode node
  counts ← check_counts i
  good ← check_extents blocks k 0 (first_extent i)
  rest ← walk ns blocks i.version (nodes_for i.extents - 1) (i.extents - 1) k i.next
  let extents : List Extent = first_extent i ++ rest.0
  sum ← wants (lengths extents == i.blocks) (faults.Count i.blocks (lengths extents))
  Ok (record {
    root = i.root;
    size = i.size;
    version = i.version;
    extents = extents;
    nodes = k ∷ rest.1;
  })
