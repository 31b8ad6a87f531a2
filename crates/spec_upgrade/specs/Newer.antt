-- Metadata that says the same in a volume of a newer version (this project's profile).
use Rattle.std.specs.Prelude.{◌≡◌, ℕ, Ok}
use Rattle.spec_record.specs.declared.node.Node.{Node}
use Rattle.spec_image.specs.Metadata.{Metadata}

-- as many nodes, bits and blocks, the same bits and counts; each node that reads reads as before
pub record SaysSame (old new : Metadata) : Type 0 where
  pub count : new.nodes.count ≡ old.nodes.count
  pub blocks : new.super.geometry.blocks ≡ old.super.geometry.blocks
  pub bit_count : new.bit_count ≡ old.bit_count
  pub bits : (d : ℕ) → new.bit d ≡ old.bit d
  pub blobs : new.super.blobs ≡ old.super.blobs
  pub used_blocks : new.super.used_blocks ≡ old.super.used_blocks
  pub used_nodes : new.super.used_nodes ≡ old.super.used_nodes
  pub reads : (k : ℕ) (n : Node) → old.nodes.read k ≡ Ok n → new.nodes.read k ≡ Ok n
