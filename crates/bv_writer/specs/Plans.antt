-- The plan of a blob that is to be added.
use Rattle.std.specs.Prelude.{◌≡◌, ℕ, List, length}
use Rattle.spec_tree.specs.declared.Digest.{Digest}
use Rattle.spec_tree.specs.Tree.{root_of}
use Rattle.bv_writer.specs.Blocks.{blob_blocks}

-- what is to be added: the version of its layout, its root, its size in bytes, and its blocks
pub record Plan : Type 0 where
  pub version : ℕ
  pub root : Digest
  pub size : ℕ
  pub blocks : List (List ℕ)

-- it is the plan of these bytes
pub record IsPlanOf (a : Plan) (version : ℕ) (bytes : List ℕ) : Type 0 where
  pub of_version : a.version ≡ version
  pub of_root : a.root ≡ root_of bytes
  pub of_size : a.size ≡ length bytes
  pub of_blocks : a.blocks ≡ blob_blocks version bytes
