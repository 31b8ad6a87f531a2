-- The register so far, with what is left, gives what all bytes give.
use Rattle.std.proofs.Common.{◌≡◌, length, drop, bit_xor}
use Rattle.spec_record.specs.Crc.{crc_register, message_bits}
use Rattle.bv_bytes.proofs.crc.crc_more.Given as goal

abbrev pub invariant-loop-rest : goal.invariant-loop-rest
invariant-loop-rest l =
    crc_register l.register (message_bits l.rest) ≡ crc_register (bit_xor l.crc 0xFFFFFFFF) (message_bits l.bytes)

abbrev pub decreases-loop-rest : goal.decreases-loop-rest
decreases-loop-rest l = length l.rest

abbrev pub invariant-loop-byte : goal.invariant-loop-byte
invariant-loop-byte l =
    crc_register l.register (message_bits (drop l.byte-index l.byte-items)) ≡ crc_register (bit_xor l.crc 0xFFFFFFFF) (message_bits l.bytes)
