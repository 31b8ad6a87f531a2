-- The info block: the first block of the journal, 8192 bytes, numbers little-endian. This project's
-- profile.
--
-- | offset | width | field                        | value                              |
-- |-------:|------:|------------------------------|------------------------------------|
-- |      0 |     8 | magic                        | `0x626c6f626a726e6c`               |
-- |      8 |     8 | start                        | below the number of slots          |
-- |     16 |     8 | reserved                     | 0                                  |
-- |     24 |     8 | number of the entry at start | 1 to 2^62                          |
-- |     32 |     4 | checksum                     | CRC-32 of bytes 0 to 31            |
-- |     36 |  8156 | rest                         | 0                                  |
--
-- A reader refuses by the first of these that fails: magic, checksum, zeros, start, number. In the
-- fault of a checksum the wanted one is the stored one, and the found one that of the bytes.
use Rattle.std.specs.Prelude.{◌<◌, ◌^◌, ℕ, Bool, ◌==◌, nat_lt, List, [], ◌∷◌, ◌++◌, take, Option, Result}
use Rattle.std.specs.Result.{result_ok}
use Rattle.spec_record.specs.declared.info.Info.{Info}
use Rattle.spec_record.specs.declared.info_fault.InfoFault.{InfoFault}
use Rattle.spec_record.specs.declared.info_fault.InfoFault.TheVariants as faults
use Rattle.spec_record.specs.Field.{field, spelled}
use Rattle.spec_record.specs.Tests.{value_or_fault, IsBetween, is_between, first_set}
use Rattle.spec_record.specs.Crc.{crc32}

-- the number with which an info block begins
abbrev pub info_magic : ℕ
info_magic = 0x626c6f626a726e6c

-- the value in the fields, in their ranges or not
abbrev pub info_in : List ℕ → Info
info_in bytes = record { start = field bytes 8 8; number = field bytes 24 8 }

-- each row of the table with its range, in the order of the faults
abbrev pub info_tests : List ℕ → ℕ → List (Bool × InfoFault)
info_tests bytes slots =
    let info = info_in bytes in
    let stored = field bytes 32 4 in
    let sum = crc32 (take 32 bytes) in
    (field bytes 0 8 == info_magic, faults.Magic)
    ∷ (stored == sum, faults.Checksum stored sum)
    ∷ (field bytes 16 8 == 0, faults.Zero (first_set bytes 16))
    ∷ (field bytes 36 8156 == 0, faults.Zero (first_set bytes 36))
    ∷ (nat_lt info.start slots, faults.Start info.start)
    ∷ (is_between 1 info.number (2 ^ 62), faults.Number info.number)
    ∷ []

-- what a block stands for as the info block of a ring of so many slots, or the first row that fails
unfoldable pub info_or_fault : List ℕ → ℕ → Result Info InfoFault
info_or_fault bytes slots = value_or_fault (info_tests bytes slots) (info_in bytes)

-- what a block stands for as the info block of a ring of so many slots, or none
abbrev pub info_of : List ℕ → ℕ → Option Info
info_of bytes slots = result_ok (info_or_fault bytes slots)

-- start and number are within their ranges
pub record IsInfo (slots : ℕ) (info : Info) : Type 0 where
  pub start : info.start < slots
  pub number : IsBetween 1 info.number (2 ^ 62)

-- the 32 bytes that the checksum is of
abbrev pub info_front : Info → List ℕ
info_front info =
    spelled (8 ∷ 8 ∷ 8 ∷ 8 ∷ []) (info_magic ∷ info.start ∷ 0 ∷ info.number ∷ [])

-- the block of an info
abbrev pub info_bytes : Info → List ℕ
info_bytes info = info_front info ++ spelled (4 ∷ 8156 ∷ []) (crc32 (info_front info) ∷ 0 ∷ [])
