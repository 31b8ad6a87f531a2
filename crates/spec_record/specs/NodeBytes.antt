-- The 64 bytes of a node, by the tables of `Node`. This project's profile.
use Rattle.std.specs.Prelude.{◌≡◌, ◌<◌, ◌^◌, ℕ, List, [], ◌∷◌, length, map, drop, All}
use Rattle.spec_record.specs.declared.extent.Extent.{Extent}
use Rattle.spec_record.specs.declared.inode.Inode.{Inode}
use Rattle.spec_record.specs.declared.container.Container.{Container}
use Rattle.spec_record.specs.declared.node.Node.{Node}
use Rattle.spec_record.specs.declared.node.Node.TheVariants.{Free, Inode as InodeNode, Container as ContainerNode}
use Rattle.spec_record.specs.Field.{IsBytes, number_of, spelled}
use Rattle.spec_record.specs.Tests.{IsBetween}
use Rattle.spec_record.specs.Extent.{extent_number, FitsExtent}

-- a place of the node map is 64 bytes
pub record IsPlace (bytes : List ℕ) : Type 0 where
  pub length_is : length bytes ≡ 64
  pub bytes_fit : IsBytes bytes

-- an unused place for an extent
abbrev pub IsUnused : Extent → Type 0
IsUnused extent = extent ≡ record { start = 0; len = 0 }

-- an inode that some bytes spell in a volume of this version
pub record IsInode (volume : ℕ) (i : Inode) : Type 0 where
  pub version : IsBetween 1 i.version volume
  pub next : i.next < 2 ^ 32
  pub root_length : length i.root.0 ≡ 32
  pub root_bytes : IsBytes i.root.0
  pub size : i.size < 2 ^ 64
  pub blocks : i.blocks < 2 ^ 32
  pub extents : i.extents < 2 ^ 16
  pub first : FitsExtent i.first
  pub unused : i.extents ≡ 0 → IsUnused i.first

-- a container that some bytes spell in a volume of this version
pub record IsContainer (volume : ℕ) (c : Container) : Type 0 where
  pub version : IsBetween 1 c.version volume
  pub next : c.next < 2 ^ 32
  pub previous : c.previous < 2 ^ 32
  pub count : c.count < 2 ^ 16
  pub places : length c.extents ≡ 6
  pub extents : All FitsExtent c.extents
  pub unused : All IsUnused (drop c.count c.extents)

-- a node that some bytes spell in a volume of this version
abbrev pub IsNode : ℕ → Node → Type 0
IsNode volume Free = Unit {0}
IsNode volume (InodeNode i) = IsInode volume i
IsNode volume (ContainerNode c) = IsContainer volume c

-- the widths of an inode's table, row by row
abbrev pub inode_widths : List ℕ
inode_widths = 2 ∷ 2 ∷ 4 ∷ 32 ∷ 8 ∷ 4 ∷ 2 ∷ 2 ∷ 8 ∷ []

-- the widths of a container's table, row by row
abbrev pub container_widths : List ℕ
container_widths = 2 ∷ 2 ∷ 4 ∷ 4 ∷ 2 ∷ 2 ∷ 8 ∷ 8 ∷ 8 ∷ 8 ∷ 8 ∷ 8 ∷ []

-- the numbers of an inode's table, row by row
abbrev pub inode_rows : Inode → List ℕ
inode_rows i =
    1 ∷ i.version ∷ i.next ∷ number_of i.root.0 ∷ i.size ∷ i.blocks ∷ i.extents ∷ 0
    ∷ extent_number i.first ∷ []

-- the numbers of a container's table, row by row
abbrev pub container_rows : Container → List ℕ
container_rows c =
    9 ∷ c.version ∷ c.next ∷ c.previous ∷ c.count ∷ 0 ∷ map extent_number c.extents

-- the 64 bytes of a node
abbrev pub node_bytes : Node → List ℕ
node_bytes Free = spelled (64 ∷ []) (0 ∷ [])
node_bytes (InodeNode i) = spelled inode_widths (inode_rows i)
node_bytes (ContainerNode c) = spelled container_widths (container_rows c)
