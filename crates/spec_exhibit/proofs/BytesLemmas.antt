-- Digests, the data of a tree's blocks and the messages that are hashed for them are bytes.
use Rattle.std.proofs.Common.{◌≡◌, ◌<◌, ℕ, zero, suc, ◌-◌, ◌*◌, List, [], ◌∷◌, ◌++◌, length, take, drop, replicate, bit_or, arith}
use Rattle.std.specs.List.{All, flat_map}
use Rattle.std.specs.Int.{byte_at, bytes_low_first, bytes_high_first, to_le_bytes, w32, w64}
use Rattle.std.proofs.lemmas.List.Elements.{All-nil, All-cons, All-append, All-replicate, All-map, All-head, All-tail, All-take, All-drop}
use Rattle.sha2.specs.Sha256.{sha256, digest_bytes}
use Rattle.spec_tree.specs.declared.Digest.{Digest}
use Rattle.spec_tree.specs.Tree.{block_message, block_digest, filled, heading, level_0, level_above, level_of}
use Rattle.spec_tree.proofs.TreeLemmas.{length-block_digest}
use Rattle.spec_exhibit.specs.Exhibit.{AreBytes, data_at}

byte_at-is : (i n : ℕ) → byte_at i n < 256
byte_at-is zero n = omega arith
byte_at-is (suc i) n = omega arith

low_first-are : (i k n : ℕ) → AreBytes (bytes_low_first i k n)
low_first-are i zero n = All-nil (λ b. b < 256)
low_first-are i (suc k) n =
    All-cons (λ b. b < 256) (byte_at i n) (bytes_low_first (suc i) k n)
    (byte_at-is i n) (low_first-are (suc i) k n)

high_first-are : (k n : ℕ) → AreBytes (bytes_high_first k n)
high_first-are zero n = All-nil (λ b. b < 256)
high_first-are (suc k) n =
    All-cons (λ b. b < 256) (byte_at k n) (bytes_high_first k n)
    (byte_at-is k n) (high_first-are k n)

digest_bytes-are : (h : List ℕ) (n : ℕ) → AreBytes (digest_bytes h n)
unfolding digest_bytes
digest_bytes-are h zero = All-nil (λ b. b < 256)
digest_bytes-are h (suc n) =
    All-append (λ b. b < 256) _ _ (digest_bytes-are h n) (high_first-are 4 _)

sha256-are : (m : List ℕ) → AreBytes (sha256 m)
unfolding sha256
sha256-are m = digest_bytes-are _ 8

zeros-are : (n : ℕ) → AreBytes (replicate n 0)
zeros-are n = All-replicate (λ b. b < 256) n 0 (omega arith)

-- ---- messages

-- bytes filled up with zeros
pub filled-are : (bytes : List ℕ) → AreBytes bytes → AreBytes (filled bytes)
filled-are bytes h = All-append (λ b. b < 256) bytes _ h (zeros-are (8192 - length bytes))

heading-are : (level offset count : ℕ) → AreBytes (heading level offset count)
heading-are level offset count =
    All-append (λ b. b < 256) (to_le_bytes w64 (bit_or offset level)) (to_le_bytes w32 count)
    (low_first-are 0 8 (bit_or offset level)) (low_first-are 0 4 count)

behind-are : (level offset : ℕ) (bytes : List ℕ) → AreBytes bytes
    → AreBytes (heading level offset (length bytes) ++ filled bytes)
behind-are level offset bytes h =
    All-append (λ b. b < 256) (heading level offset (length bytes)) (filled bytes)
    (heading-are level offset (length bytes)) (filled-are bytes h)

-- the message of a block whose data are bytes
pub block_message-are : (level offset : ℕ) (bytes : List ℕ) → AreBytes bytes
    → AreBytes (block_message level offset bytes)
block_message-are zero offset [] h = zeros-are 12
block_message-are zero offset (b ∷ bytes) h = behind-are 0 offset (b ∷ bytes) h
block_message-are (suc level) offset bytes h = behind-are (suc level) offset bytes h

-- ---- digests

-- a digest has 32 bytes
pub record IsDigest (d : Digest) : Type 0 where
  pub length_is : length d.0 ≡ 32
  pub bytes : AreBytes d.0

block_digest-is : (level offset : ℕ) (bytes : List ℕ) → IsDigest (block_digest level offset bytes)
unfolding block_digest
block_digest-is level offset bytes = record {
  length_is = length-block_digest level offset bytes;
  bytes = sha256-are _;
}

-- digests one after another are bytes
pub joined-are : (digests : List Digest) → All IsDigest digests
    → AreBytes (flat_map (λ d. d.0) digests)
joined-are [] all = All-nil (λ b. b < 256)
joined-are (d ∷ ds) all =
    All-append (λ b. b < 256) d.0 (flat_map (λ d. d.0) ds)
    (All-head IsDigest d ds all).bytes (joined-are ds (All-tail IsDigest d ds all))

-- so has each digest of a level
pub level_of-are : (bytes : List ℕ) (level : ℕ) → All IsDigest (level_of bytes level)
unfolding level_of level_0 level_above
level_of-are bytes zero = All-map IsDigest _ _ (λ k d lt. block_digest-is 0 _ _)
level_of-are bytes (suc level) = All-map IsDigest _ _ (λ k d lt. block_digest-is (suc level) _ _)

-- and each of those that one block holds
pub group-are : (digests : List Digest) (i : ℕ) → All IsDigest digests
    → All IsDigest (take 256 (drop (256 * i) digests))
group-are digests i all = All-take IsDigest 256 _ (All-drop IsDigest (256 * i) digests all)

-- the data of a block
pub data_at-are : (blob : List ℕ) (level index : ℕ) → AreBytes blob
    → AreBytes (data_at blob level index)
data_at-are blob zero index h =
    All-take (λ b. b < 256) 8192 _ (All-drop (λ b. b < 256) (8192 * index) blob h)
data_at-are blob (suc below) index h =
    filled-are _ (joined-are _ (group-are _ index (level_of-are blob below)))
