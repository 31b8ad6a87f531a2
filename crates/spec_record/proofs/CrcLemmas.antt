-- A CRC-32 takes four bytes.
use Rattle.std.proofs.Common.{◌<◌, ℕ, ◌/◌, ◌%◌, ◌^◌, List, [], ◌∷◌, true, false, cond, eqb, bit_xor, arith, lit<}
use Rattle.std.proofs.lemmas.Nat.{xor_lt}
use Rattle.spec_record.specs.Crc.{crc_step, crc_register, crc32, message_bits}

crc_step_below : (register bit : ℕ) → register < 2 ^ 32 → crc_step register bit < 2 ^ 32
unfolding crc_step
crc_step_below register bit lt =
    elim (eqb (register % 2) bit) as (λ b. cond b (register / 2) (bit_xor (register / 2) 0xEDB88320) < 2 ^ 32) [
      | true ↦ omega arith
      | false ↦ xor_lt 32 (register / 2) 0xEDB88320 (omega arith) (lit< tt)
    ]

crc_register_below : (register : ℕ) (bits : List ℕ) → register < 2 ^ 32 → crc_register register bits < 2 ^ 32
crc_register_below register [] lt = lt
crc_register_below register (bit ∷ bits) lt = crc_register_below (crc_step register bit) bits (crc_step_below register bit lt)

pub crc32_below : (bytes : List ℕ) → crc32 bytes < 2 ^ 32
unfolding crc32
crc32_below bytes = xor_lt 32 (crc_register 0xFFFFFFFF (message_bits bytes)) 0xFFFFFFFF (crc_register_below 0xFFFFFFFF (message_bits bytes) (lit< tt)) (lit< tt)
