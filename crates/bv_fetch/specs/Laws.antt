-- What the blocks of a blob, as they are written, give to a fetch.
use Rattle.std.specs.Prelude.{ℕ, List}
use Rattle.spec_tree.specs.declared.Digest.{Digest}
use Rattle.bv_store.specs.Stored.{HasBlob}
use Rattle.bv_writer.specs.Blocks.{IsBlobOf}

-- the blocks of bytes with this root and size have the blob: each window of them verifies
abbrev pub WrittenBlobsVerify : Type 0
WrittenBlobsVerify =
    (version size : ℕ) (root : Digest) (blocks : List (List ℕ))
    → IsBlobOf version root size blocks
    → HasBlob root (record { size = size; version = version }) blocks
