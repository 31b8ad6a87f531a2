-- CRC-32 in steps of whole bytes, for the code that goes over tables.
use Rattle.std.specs.Prelude.{ℕ, zero, suc, bit_xor, List}
use Rattle.spec_record.specs.Crc.{crc_step, crc_register, message_bits}

-- what so many steps over zero bits make of a register
unfoldable pub shifts : ℕ → ℕ → ℕ
shifts zero register = register
shifts (suc steps) register = shifts steps (crc_step register 0)

-- the CRC-32 of a message and then these bytes, where the message has this CRC-32
abbrev pub crc_after : ℕ → List ℕ → ℕ
crc_after crc bytes =
    bit_xor (crc_register (bit_xor crc 0xFFFFFFFF) (message_bits bytes)) 0xFFFFFFFF
