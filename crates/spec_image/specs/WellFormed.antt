-- What makes metadata well formed (this project's profile). A stale slot of the journal is no
-- fault.
use Rattle.std.specs.Prelude.{ℕ, zero, suc, ◌+◌, List, [], ◌∷◌, ◌++◌, length, sum_by, count_by, Bool, true, false, not, ◌==◌, nat_le, nat_lt, ◌&&◌, ◌||◌, if◌then◌else◌, Result, Ok, Err, is_ok}
use Rattle.std.specs.List.{list_all}
use Rattle.spec_tree.specs.declared.Digest.{Digest}
use Rattle.spec_record.specs.declared.extent.Extent.{Extent}
use Rattle.spec_record.specs.declared.node.Node.{Node}
use Rattle.spec_record.specs.declared.node.Node.TheVariants as nodes
use Rattle.spec_record.specs.declared.node_fault.NodeFault.{NodeFault}
use Rattle.spec_image.specs.Chain.{Nodes, BlobRecord, chain}
use Rattle.spec_image.specs.Metadata.{Metadata}
use Rattle.spec_tree.specs.Order.{same_digest}

-- the blob that a chain read, if it did
abbrev pub read_of : Result BlobRecord NodeFault → List BlobRecord
read_of (Ok b) = b ∷ []
read_of (Err f) = []

-- the blobs whose chains read, of the inodes below node n, in the order of the inodes
unfoldable pub records_below : Nodes → ℕ → ℕ → List BlobRecord
records_below ns blocks zero = []
records_below ns blocks (suc n) = records_below ns blocks n ++ read_of (chain ns blocks n)

-- the blobs whose chains read
abbrev pub records_of : Metadata → List BlobRecord
records_of m = records_below m.nodes m.super.geometry.blocks m.nodes.count

-- every number below n passes
unfoldable pub all_below : ℕ → (ℕ → Bool) → Bool
all_below zero test = true
all_below (suc n) test = all_below n test && test n

-- how many numbers below n pass
unfoldable pub count_below : ℕ → (ℕ → Bool) → ℕ
count_below zero test = 0
count_below (suc n) test = count_below n test + (if test n then 1 else 0)

-- data block d is in an extent
abbrev pub covers : ℕ → Extent → Bool
covers d e = nat_le e.start d && nat_lt d (e.start + e.len)

-- in how many extents data block d is, those of one blob or of several
abbrev pub extents_with : List BlobRecord → ℕ → ℕ
extents_with bs d = sum_by (λ b. count_by (covers d) b.extents) bs

-- how often node k stands in the chains
abbrev pub chains_with : List BlobRecord → ℕ → ℕ
chains_with bs k = sum_by (λ b. count_by (λ n. n == k) b.nodes) bs

-- the blobs with this root
abbrev pub blobs_named : List BlobRecord → Digest → ℕ
blobs_named bs root = count_by (λ b. same_digest root b.root) bs

-- the node reads, and it is an inode
abbrev pub is_inode : Result Node NodeFault → Bool
is_inode (Ok nodes.Free) = false
is_inode (Ok (nodes.Inode i)) = true
is_inode (Ok (nodes.Container c)) = false
is_inode (Err f) = false

-- the node reads, and it is a container
abbrev pub is_container : Result Node NodeFault → Bool
is_container (Ok nodes.Free) = false
is_container (Ok (nodes.Inode i)) = false
is_container (Ok (nodes.Container c)) = true
is_container (Err f) = false

-- every node reads
abbrev pub nodes_read : Metadata → Bool
nodes_read m = all_below m.nodes.count (λ k. is_ok (m.nodes.read k))

-- every inode's chain reads
abbrev pub chains_read : Metadata → Bool
chains_read m = all_below m.nodes.count (λ k.
    not (is_inode (m.nodes.read k)) || is_ok (chain m.nodes m.super.geometry.blocks k))

-- every container stands in one chain
abbrev pub containers_placed : Metadata → Bool
containers_placed m =
    all_below m.nodes.count (λ k.
    not (is_container (m.nodes.read k)) || (chains_with (records_of m) k == 1))

-- no data block is in two extents
abbrev pub blocks_apart : Metadata → Bool
blocks_apart m = all_below m.super.geometry.blocks (λ d. nat_le (extents_with (records_of m) d) 1)

-- no root has two inodes
abbrev pub roots_apart : Metadata → Bool
roots_apart m = list_all (λ b. nat_le (blobs_named (records_of m) b.root) 1) (records_of m)

-- a bit is to be 1 for data block 0 and for the blocks of extents, and 0 for all others
abbrev pub bit_wanted : Metadata → ℕ → Bool
bit_wanted m d = (d == 0) || nat_le 1 (extents_with (records_of m) d)

-- every bit of the bitmap's blocks is as it is to be, those past the last data block among them
abbrev pub bits_right : Metadata → Bool
bits_right m =
    all_below m.bit_count (λ d. if m.bit d then bit_wanted m d else not (bit_wanted m d))

-- how many data blocks are in extents, a block in several counted once
abbrev pub blocks_in_extents : Metadata → ℕ
blocks_in_extents m =
    count_below m.super.geometry.blocks (λ d. nat_le 1 (extents_with (records_of m) d))

-- the superblock's three counts are right: the number of the blobs, one more (for data block 0) than
-- the number of data blocks in extents, and the number of the blobs' nodes
abbrev pub counts_right : Metadata → Bool
counts_right m =
    (m.super.blobs == length (records_of m))
    && (m.super.used_blocks == 1 + blocks_in_extents m)
    && (m.super.used_nodes == sum_by (λ b. length b.nodes) (records_of m))

-- WellFormed: all of these
unfoldable pub is_well_formed : Metadata → Bool
is_well_formed m =
    nodes_read m && chains_read m && containers_placed m && blocks_apart m && roots_apart m
    && bits_right m && counts_right m
