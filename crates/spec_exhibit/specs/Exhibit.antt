-- What two blobs of one name show: a place in both trees where unlike messages with one digest are
-- hashed. Messages and digests are those of SHA-256 (FIPS 180-4, by `sha2`'s own word).
use Rattle.std.specs.Prelude.{◌≡◌, ◌≢◌, ◌<◌, ◌≤◌, ◌*◌, ℕ, zero, suc, List, length, All}
use Rattle.sha2.specs.Sha256.{sha256}
use Rattle.spec_tree.specs.Tree.{piece, digest_block, block_message, level_of, levels_of, digests_at}

-- the numbers are bytes
abbrev pub AreBytes : List ℕ → Type 0
AreBytes bytes = All (λ byte. byte < 256) bytes

-- Collision: two unlike inputs with one SHA-256
pub record IsCollision (a b : List ℕ) : Type 0 where
  pub first_bytes : AreBytes a
  pub second_bytes : AreBytes b
  pub unlike : a ≢ b
  pub same : sha256 a ≡ sha256 b

-- ---- what is hashed for a tree

-- the data of a block in a blob's tree: a piece of the blob, or 256 digests of the level below
abbrev pub data_at : List ℕ → ℕ → ℕ → List ℕ
data_at blob zero index = piece blob index
data_at blob (suc below) index = digest_block (level_of blob below) index

-- the message of a block in a blob's tree: the bytes that are hashed for it
abbrev pub message_at : List ℕ → ℕ → ℕ → List ℕ
message_at blob level index = block_message level (8192 * index) (data_at blob level index)

-- ---- what two trees show

-- the tree of so many bytes has a block at this level and index
pub record HasBlock (size level index : ℕ) : Type 0 where
  pub level_within : level ≤ levels_of size
  pub index_within : index < digests_at size level

-- both trees have a block at this level and index, and the messages of these blocks collide
pub record IsCollisionOf (a b : List ℕ) (level index : ℕ) : Type 0 where
  pub first_block : HasBlock (length a) level index
  pub second_block : HasBlock (length b) level index
  pub messages : IsCollision (message_at a level index) (message_at b level index)

-- the trees of a and b collide at a level and an index, which are named
abbrev pub TreesCollide : List ℕ → List ℕ → Type 0
TreesCollide a b = (level : ℕ) × ((index : ℕ) × IsCollisionOf a b level index)
