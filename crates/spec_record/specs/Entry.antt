-- A journal entry: a header, its payloads and a commit, each a block of 8192 bytes, numbers
-- little-endian. A payload is the new bytes of one metadata block, its target. This project's
-- profile.
--
-- | offset | width | prefix of header and commit                                          |
-- |-------:|------:|----------------------------------------------------------------------|
-- |      0 |     8 | magic `0x626c6f626e747279`, so the bytes 79 72 74 6e 62 6f 6c 62      |
-- |      8 |     8 | number, 1 to 2^62 - 1                                                |
-- |     16 |     8 | kind: 1 header, 2 commit                                             |
-- |     24 |     8 | reserved, 0                                                          |
--
-- | offset | width | header after the prefix                                              |
-- |-------:|------:|----------------------------------------------------------------------|
-- |     32 |     8 | payload count n, 1 to M                                              |
-- |     40 |  5432 | 679 targets of 8 bytes; the first n rise and are below M, the rest 0 |
-- |   5472 |  2716 | 679 flags of 4 bytes; 0 or 1 for the first n, the rest 0             |
-- |   8188 |     4 | reserved, 0                                                          |
--
-- | offset | width | commit after the prefix                                              |
-- |-------:|------:|----------------------------------------------------------------------|
-- |     32 |     4 | checksum: CRC-32 of the header and the payloads as stored            |
-- |     36 |  8156 | 0                                                                    |
--
-- So that no payload is taken for a header, one that begins with the magic is stored with zeros
-- there and the flag 1. A stored payload with the flag 1 begins with eight zeros, and one with the
-- flag 0 doesn't begin with the magic.
--
-- A reader refuses by the first of these that fails: magic, number, kind, count, the places of the
-- targets in order, the header's reserved fields, commit, checksum. In the fault of a checksum the
-- wanted one is the stored one, and the found one that of the blocks.
use Rattle.std.specs.Prelude.{◌+◌, ◌-◌, ◌^◌, ℕ, Bool, ◌&&◌, ◌==◌, nat_le, if◌then◌else◌, List, [], ◌∷◌, ◌++◌, length, take, drop, is_none, unwrap_or, Option, Result}
use Rattle.std.specs.List.{concat}
use Rattle.std.specs.Result.{result_ok}
use Rattle.spec_record.specs.declared.entry_fault.EntryFault.{EntryFault}
use Rattle.spec_record.specs.declared.entry_fault.EntryFault.TheVariants as faults
use Rattle.spec_record.specs.Field.{field, bytes_of}
use Rattle.spec_record.specs.Tests.{value_or_fault, is_between}
use Rattle.spec_record.specs.Crc.{crc32}
use Rattle.spec_record.specs.Places.{entry_magic, block_in, begins_with_magic, target_in, flag_in, wrong_place}

-- what an entry does: it gives metadata blocks new bytes
pub record Entry : Type 0 where
  pub number : ℕ
  -- each payload's target, the metadata block that it replaces, and the bytes
  pub targets : List (ℕ × List ℕ)

-- a payload as it was, from its flag and the stored block
unfoldable pub restored : ℕ → List ℕ → List ℕ
restored flag block = if flag == 1 then bytes_of 8 entry_magic ++ drop 8 block else block

-- a commit of this number, whatever its checksum
abbrev pub is_commit : List ℕ → ℕ → Bool
is_commit block number =
    begins_with_magic block && (field block 8 8 == number) && (field block 16 8 == 2)
    && (field block 24 8 == 0) && (field block 36 8156 == 0)

-- each row of the tables with its range, in the order of the faults
abbrev pub entry_tests : List (List ℕ) → ℕ → ℕ → List (Bool × EntryFault)
entry_tests blocks number meta =
    let header = block_in blocks 0 in
    let found = field header 8 8 in
    let kind = field header 16 8 in
    let count = field header 32 8 in
    let wrong = wrong_place blocks meta in
    let commit = block_in blocks (count + 1) in
    let stored = field commit 32 4 in
    let sum = crc32 (concat (take (count + 1) blocks)) in
    (begins_with_magic header, faults.Magic)
    ∷ ((found == number) && is_between 1 number (2 ^ 62 - 1), faults.Number number found)
    ∷ (kind == 1, faults.Kind kind)
    ∷ (is_between 1 count meta && nat_le (count + 2) (length blocks), faults.Count count)
    ∷ (is_none wrong, faults.Target (unwrap_or wrong 0))
    ∷ ((field header 24 8 == 0) && (field header 8188 4 == 0), faults.Target 679)
    ∷ (is_commit commit number, faults.Commit)
    ∷ (stored == sum, faults.Checksum stored sum)
    ∷ []

-- the targets from a place on, with the stored payloads from there on restored
abbrev pub targets_in : List ℕ → ℕ → List (List ℕ) → List (ℕ × List ℕ)
targets_in header place [] = []
targets_in header place (block ∷ blocks) =
    (target_in header place, restored (flag_in header place) block)
    ∷ targets_in header (place + 1) blocks

-- the value in the fields, in their ranges or not
abbrev pub entry_in : List (List ℕ) → Entry
entry_in blocks =
    let header = block_in blocks 0 in
    record {
      number = field header 8 8;
      targets = targets_in header 0 (take (field header 32 8) (drop 1 blocks));
    }

-- the entry of this number with which blocks begin, in a volume of M metadata blocks, or the first
-- test that fails; the blocks after the commit are looked at by nobody
unfoldable pub entry_or_fault : List (List ℕ) → ℕ → ℕ → Result Entry EntryFault
entry_or_fault blocks number meta =
    value_or_fault (entry_tests blocks number meta) (entry_in blocks)

-- the entry of this number with which blocks begin, or none
abbrev pub entry_of : List (List ℕ) → ℕ → ℕ → Option Entry
entry_of blocks number meta = result_ok (entry_or_fault blocks number meta)
