-- CRC-32, bit by bit: the check of ISO/IEC 3309 and ITU-T V.42 in its reflected form, with the
-- polynomial 0xEDB88320. The register begins with 32 ones, and its 32 bits are inverted at the end.
use Rattle.std.specs.Prelude.{◌/◌, ◌%◌, ℕ, zero, suc, ◌==◌, if◌then◌else◌, bit_xor, List, [], ◌∷◌, ◌++◌}

-- the lowest bits of a number, `count` of them, the lowest first
unfoldable pub bits_of : ℕ → ℕ → List ℕ
bits_of zero number = []
bits_of (suc count) number = number % 2 ∷ bits_of count (number / 2)

-- the bits of a message: those of each byte, the lowest first
abbrev pub message_bits : List ℕ → List ℕ
message_bits [] = []
message_bits (byte ∷ bytes) = bits_of 8 byte ++ message_bits bytes

-- the register after one bit: it moves down by a bit, and takes the polynomial where the bit that
-- leaves it isn't the message's
unfoldable pub crc_step : ℕ → ℕ → ℕ
crc_step register bit =
    if register % 2 == bit then register / 2 else bit_xor (register / 2) 0xEDB88320

-- the register after bits
abbrev pub crc_register : ℕ → List ℕ → ℕ
crc_register register [] = register
crc_register register (bit ∷ bits) = crc_register (crc_step register bit) bits

-- the CRC-32 of bytes
unfoldable pub crc32 : List ℕ → ℕ
crc32 bytes = bit_xor (crc_register 0xFFFFFFFF (message_bits bytes)) 0xFFFFFFFF
