-- What the metadata blocks of a volume say: its nodes, its bitmap and its counts (this project's
-- profile).
use Rattle.std.specs.Prelude.{ℕ, ◌*◌, List, Bool}
use Rattle.spec_record.specs.declared.geometry.Geometry.{Geometry}
use Rattle.spec_record.specs.declared.superblock.Super.{Super}
use Rattle.spec_record.specs.Geometry.{bitmap_blocks, bitmap_in, node_map_in}
use Rattle.spec_record.specs.Bitmap.{bitmap_bit}
use Rattle.spec_record.specs.Node.{place_bytes, node_or_fault}
use Rattle.spec_image.specs.Chain.{Nodes}

-- the superblock; the nodes; the bits of the bitmap's blocks, all 65,536 of each block
pub record Metadata : Type 0 where
  pub super : Super
  pub nodes : Nodes
  pub bit_count : ℕ
  pub bit : ℕ → Bool

-- the nodes of these metadata blocks
abbrev pub nodes_in : Geometry → List (List ℕ) → Nodes
nodes_in g blocks = record {
  count = g.nodes;
  read = λ k. node_or_fault (place_bytes (node_map_in g blocks) k) g.version;
}

-- what these metadata blocks say, with this superblock
abbrev pub metadata_in : Super → List (List ℕ) → Metadata
metadata_in s blocks = record {
  super = s;
  nodes = nodes_in s.geometry blocks;
  bit_count = 65536 * bitmap_blocks s.geometry;
  bit = bitmap_bit (bitmap_in s.geometry blocks);
}
