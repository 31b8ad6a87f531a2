-- The bytes of a message, and the pieces in which SHA-256 takes them.
use Rattle.std.specs.Prelude.{◌≡◌, ℕ, ◌*◌, List, [], ◌++◌, length, take, drop, slice_index_or}
use Rattle.sha2.specs.Sha256.{padded_message}
use Rattle.bv_lanes.specs.declared.message.Message.{Message}

-- the bytes of a message: the prefix and the block
abbrev pub bytes_of : Message → List ℕ
bytes_of message = message.prefix ++ message.block.now

-- a message has 12 bytes of prefix, and a block
abbrev pub IsMessage : Message → Type 0
IsMessage message = (length message.prefix ≡ 12) × (length message.block.now ≡ 8192)

-- piece n of the padded message: 64 bytes
abbrev pub piece_of : Message → ℕ → List ℕ
piece_of message n = take 64 (drop (n * 64) (padded_message (bytes_of message)))

-- the message of lane j; one past the end is never asked for
abbrev pub message_at : List Message → ℕ → Message
message_at messages j = slice_index_or messages j (record {
  prefix = [];
  block = record { ref_ptr = (0, 0); now = [] };
})
