-- What a publication asks of the store, and what the memory is taken for.
use Rattle.std.specs.Prelude.{◌≡◌, ◌≤◌, ◌+◌, ℕ, List, length, Some, None, Contains}
use Rattle.std.specs.Global.{Vec}
use Rattle.spec_tree.specs.Tree.{need_of}
use Rattle.spec_tree.specs.declared.Digest.{Digest}
use Rattle.spec_tree.specs.declared.blob.Blob.{Blob}
use Rattle.spec_core.specs.State.{find}
use Rattle.bv_claims.specs.Blocks.{Rises}
use Rattle.bv_store.specs.Stored.{Stored}
use Rattle.bv_volume.specs.Spaced.{nodes_at}

-- a blob that is new to the store may lie at these blocks: they are as many as it needs, rise and
-- belong to no blob, and there are nodes for it
pub record MayLieAt (s : Stored) (Held : ℕ → Type 0) (root : Digest) (blob : Blob) (blocks : List ℕ)
    : Type 0 where
  pub new : find s.placed root ≡ None
  pub version : blob.version ≡ s.geometry.version
  pub need : length blocks ≡ need_of blob.version blob.size
  pub few : length blocks ≤ 65535
  pub rising : Rises 1 blocks s.geometry.blocks
  pub free : (b : ℕ) → Contains blocks b → ¬ Held b
  pub nodes : s.used_nodes + nodes_at blocks ≤ s.geometry.nodes

-- the memory is taken for an entry that purges these roots and publishes the blob at these blocks
pub record Planned (old new : Stored) (purged : List Digest) (root : Digest) (blob : Blob)
    (blocks : List ℕ) : Type 0 where
  pub copy : Vec ℕ
  pub same : copy.items ≡ blocks
  pub is : new ≡ record old {
    planned = Some (record {
      purged = purged;
      published = Some (record { root = root; blob = blob; blocks = copy });
    });
  }
