-- The blob that a publication puts into metadata (this project's profile).
use Rattle.std.specs.Prelude.{◌≡◌, ◌≤◌, ◌<◌, ◌+◌, ℕ, List, length, Contains, Ok}
use Rattle.spec_record.specs.declared.node.Node.TheVariants as nodes
use Rattle.spec_image.specs.Chain.{BlobRecord}
use Rattle.spec_image.specs.Metadata.{Metadata}
use Rattle.spec_image.specs.WellFormed.{records_of}
use Rattle.spec_meta.specs.Change.{Change, Publish, times}
use Rattle.bv_node.specs.Runs.{runs}
use Rattle.bv_store.specs.declared.publication.Publication.{Publication}
use Rattle.bv_store.specs.Stored.{CanPublish, blocks_in, nodes_of}
use Rattle.bv_txn.specs.Metas.{MetaBlocks, metadata_of}
use Rattle.bv_journaled.specs.Standing.{placed_of}

-- the blob of a publication, in these nodes; its blocks stand in the fewest extents
abbrev pub record_of : Publication → List ℕ → BlobRecord
record_of p ks = record {
  root = p.root;
  size = p.blob.size;
  version = p.blob.version;
  extents = runs p.blocks.items;
  nodes = ks;
}

-- so many nodes, each named once, and each free
pub record AreFree (m : Metadata) (count : ℕ) (ks : List ℕ) : Type 0 where
  pub many : length ks ≡ count
  pub once : (k : ℕ) → times k ks ≤ 1
  pub free : (k : ℕ) → 1 ≤ times k ks → (k < m.nodes.count) × (m.nodes.read k ≡ Ok nodes.Free)

-- the metadata have no blob of this root and none in these data blocks, and there are as many free
-- nodes as the publication takes
pub record CanTake (m : MetaBlocks) (p : Publication) : Type 0 where
  pub can : CanPublish m.geometry (placed_of (records_of (metadata_of m))) p
  pub free : (b : ℕ) → Contains p.blocks.items b
      → ¬ Contains (blocks_in (placed_of (records_of (metadata_of m)))) b
  pub room : (metadata_of m).super.used_nodes + nodes_of p ≤ m.geometry.nodes

-- the change publishes the blob in free nodes
pub record Publishes (m : Metadata) (p : Publication) (c : Change) : Type 0 where
  pub nodes : List ℕ
  pub free : AreFree m (nodes_of p) nodes
  pub is : c ≡ Publish (record_of p nodes)
