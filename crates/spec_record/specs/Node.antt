-- A node: 64 bytes of the node map, numbers little-endian; node k stands at byte 64 k of the node
-- map. This project's profile.
--
-- | offset | width | prelude                                                             |
-- |-------:|------:|---------------------------------------------------------------------|
-- |      0 |     2 | flags: 1 inode (bit 0), 9 container (bits 0 and 3)                  |
-- |      2 |     2 | version, 1; in a volume of version 2 also 2                         |
-- |      4 |     4 | next node, `0xFFFFFFFF` for none                                    |
--
-- | offset | width | inode                       | | offset | width | container                |
-- |-------:|------:|-----------------------------|-|-------:|------:|--------------------------|
-- |      8 |    32 | root                        | |      8 |     4 | previous node            |
-- |     40 |     8 | size                        | |     12 |     2 | extent count             |
-- |     48 |     4 | block count                 | |     14 |     2 | reserved, 0              |
-- |     52 |     2 | extent count                | |     16 |    48 | six extents, unused ones 0 |
-- |     54 |     2 | reserved, 0                 | |        |       |                          |
-- |     56 |     8 | first extent, 0 if none     | |        |       |                          |
--
-- A free node is 64 zero bytes. The ranges of extents and counts are no rows of a node alone: a
-- node reads with any extents in its used places, and a container with any count. In one whose
-- count is over 6 no place is unused. A reader refuses by the flags, then the version, then the
-- first byte that should be zero.
use Rattle.std.specs.Prelude.{◌+◌, ◌-◌, ◌*◌, ◌/◌, ◌%◌, ℕ, Bool, ◌==◌, nat_le, if◌then◌else◌, List, [], ◌∷◌, take, drop, map, slice_index_or, Option, Result, Err}
use Rattle.std.specs.Result.{result_ok}
use Rattle.spec_record.specs.declared.inode.Inode.{Inode}
use Rattle.spec_record.specs.declared.container.Container.{Container}
use Rattle.spec_record.specs.declared.node.Node.{Node}
use Rattle.spec_record.specs.declared.node.Node.TheVariants as nodes
use Rattle.spec_record.specs.declared.node_fault.NodeFault.{NodeFault}
use Rattle.spec_record.specs.declared.node_fault.NodeFault.TheVariants as faults
use Rattle.spec_record.specs.Field.{field, fields}
use Rattle.spec_record.specs.Tests.{value_or_fault, is_between, first_set}
use Rattle.spec_record.specs.Extent.{extent_in}

-- the link of a node that is the last of its chain
abbrev pub no_node : ℕ
no_node = 0xFFFFFFFF

-- how many nodes a blob of so many extents has: the inode holds one, each container six
abbrev pub nodes_for : ℕ → ℕ
nodes_for extents = if nat_le extents 1 then 1 else 1 + (extents - 1 + 5) / 6

-- the 64 bytes of node k, in a node map whose blocks have 128 nodes each
abbrev pub place_bytes : List (List ℕ) → ℕ → List ℕ
place_bytes node_map k = take 64 (drop (64 * (k % 128)) (slice_index_or node_map (k / 128) []))

-- the value in the fields of an inode
abbrev pub inode_in : List ℕ → Inode
inode_in bytes = record {
  next = field bytes 4 4;
  root = record { 0 = take 32 (drop 8 bytes) };
  size = field bytes 40 8;
  blocks = field bytes 48 4;
  extents = field bytes 52 2;
  first = extent_in (field bytes 56 8);
  version = field bytes 2 2;
}

-- the value in the fields of a container
abbrev pub container_in : List ℕ → Container
container_in bytes = record {
  next = field bytes 4 4;
  previous = field bytes 8 4;
  count = field bytes 12 2;
  extents = map extent_in (fields 16 (8 ∷ 8 ∷ 8 ∷ 8 ∷ 8 ∷ 8 ∷ []) bytes);
  version = field bytes 2 2;
}

-- the test of a node's version in a volume of some version
abbrev pub version_test : List ℕ → ℕ → Bool × NodeFault
version_test bytes volume =
    let version = field bytes 2 2 in (is_between 1 version volume, faults.Version version)

-- the test that so many bytes from an offset on are zero
abbrev pub zero_test : List ℕ → ℕ → ℕ → Bool × NodeFault
zero_test bytes offset width = (field bytes offset width == 0, faults.Zero (first_set bytes offset))

-- an inode's bytes that should be zero: the reserved ones, and the first extent where there is none
abbrev pub inode_tests : List ℕ → List (Bool × NodeFault)
inode_tests bytes =
    let unused = if (inode_in bytes).extents == 0 then 8 else 0 in
    zero_test bytes 54 2 ∷ zero_test bytes (64 - unused) unused ∷ []

-- a container's bytes that should be zero: the reserved ones, and the places past the count
abbrev pub container_tests : List ℕ → List (Bool × NodeFault)
container_tests bytes =
    let unused = 8 * (6 - (container_in bytes).count) in
    zero_test bytes 14 2 ∷ zero_test bytes (64 - unused) unused ∷ []

-- what 64 zero bytes stand for, or the first byte that isn't zero
abbrev pub free_or_fault : List ℕ → Result Node NodeFault
free_or_fault bytes = value_or_fault (zero_test bytes 0 64 ∷ []) nodes.Free

-- what 64 bytes with the flags of an inode stand for, or the first test that fails
abbrev pub inode_or_fault : List ℕ → ℕ → Result Node NodeFault
inode_or_fault bytes volume =
    let tests = version_test bytes volume ∷ inode_tests bytes in
    value_or_fault tests (nodes.Inode (inode_in bytes))

-- what 64 bytes with the flags of a container stand for, or the first test that fails
abbrev pub container_or_fault : List ℕ → ℕ → Result Node NodeFault
container_or_fault bytes volume =
    let tests = version_test bytes volume ∷ container_tests bytes in
    value_or_fault tests (nodes.Container (container_in bytes))

-- what 64 bytes stand for in a volume of some version, by their flags, or the first test that fails
unfoldable pub node_or_fault : List ℕ → ℕ → Result Node NodeFault
node_or_fault bytes volume =
    let flags = field bytes 0 2 in
    if flags == 0 then free_or_fault bytes else
    (if flags == 1 then inode_or_fault bytes volume else
    (if flags == 9 then container_or_fault bytes volume else
    Err (faults.Flags flags)))

-- what 64 bytes stand for in a volume of some version, or none
abbrev pub node_of : List ℕ → ℕ → Option Node
node_of bytes volume = result_ok (node_or_fault bytes volume)
