-- What well-formed metadata is, part by part, and what its counts count (this project's profile).
use Rattle.std.specs.Prelude.{◌≡◌, ℕ, ◌+◌, ◌<◌, ◌≤◌, length, sum_by, Bool, true, ◌||◌, IsOk}
use Rattle.spec_tree.specs.declared.Digest.{Digest}
use Rattle.spec_image.specs.Chain.{chain}
use Rattle.spec_image.specs.Metadata.{Metadata}
use Rattle.spec_image.specs.WellFormed.{records_of, count_below, extents_with, chains_with, blobs_named, is_inode, is_container, bit_wanted, blocks_in_extents}

-- WellFormed: every node and chain reads, every container stands in one chain, no data block and no
-- root is used twice, and bits and counts are right
pub record WellFormed (m : Metadata) : Type 0 where
  pub nodes : (k : ℕ) → k < m.nodes.count → IsOk (m.nodes.read k)
  pub chains : (k : ℕ) → k < m.nodes.count → is_inode (m.nodes.read k) ≡ true
      → IsOk (chain m.nodes m.super.geometry.blocks k)
  pub containers : (k : ℕ) → k < m.nodes.count → is_container (m.nodes.read k) ≡ true
      → chains_with (records_of m) k ≡ 1
  pub blocks : (d : ℕ) → extents_with (records_of m) d ≤ 1
  pub roots : (root : Digest) → blobs_named (records_of m) root ≤ 1
  pub bits : (d : ℕ) → d < m.bit_count → m.bit d ≡ bit_wanted m d
  pub blob_count : m.super.blobs ≡ length (records_of m)
  pub block_count : m.super.used_blocks ≡ 1 + blocks_in_extents m
  pub node_count : m.super.used_nodes ≡ sum_by (λ b. length b.nodes) (records_of m)

-- node k is in use: an inode or a container
abbrev pub is_used : Metadata → ℕ → Bool
is_used m k = is_inode (m.nodes.read k) || is_container (m.nodes.read k)

-- the superblock's counts by its table: inodes in use, bits that are set, nodes in use
pub record CountsUse (m : Metadata) : Type 0 where
  pub blobs : m.super.blobs ≡ count_below m.nodes.count (λ k. is_inode (m.nodes.read k))
  pub used_blocks : m.super.used_blocks ≡ count_below m.bit_count m.bit
  pub used_nodes : m.super.used_nodes ≡ count_below m.nodes.count (is_used m)
