-- The blocks of a journal entry, by the tables of `Entry`, and the entry at a slot of the ring. This
-- project's profile.
use Rattle.std.specs.Prelude.{◌<◌, ◌+◌, ◌-◌, ◌^◌, ◌%◌, ℕ, if◌then◌else◌, List, [], ◌∷◌, ◌++◌, length, take, drop, map, replicate, All, Option}
use Rattle.std.specs.List.{concat}
use Rattle.std.specs.List.Sorted.{IsStrictlyIncreasing}
use Rattle.spec_record.specs.Field.{IsBlock, bytes_of, spelled}
use Rattle.spec_record.specs.Tests.{IsBetween}
use Rattle.spec_record.specs.Crc.{crc32}
use Rattle.spec_record.specs.Places.{entry_magic, header_places, begins_with_magic}
use Rattle.spec_record.specs.Entry.{Entry, entry_of}

-- an entry that some blocks spell in a volume of M metadata blocks
pub record IsEntry (meta : ℕ) (e : Entry) : Type 0 where
  pub number : IsBetween 1 e.number (2 ^ 62 - 1)
  pub count : IsBetween 1 (length e.targets) meta
  pub rising : IsStrictlyIncreasing (map (λ t. t.0) e.targets)
  pub below : All (λ t. t.0 < meta) e.targets
  pub blocks : All (λ t. IsBlock t.1) e.targets

-- a payload as it is stored: the magic at its beginning is written as zeros
unfoldable pub stored : List ℕ → List ℕ
stored payload = if begins_with_magic payload then bytes_of 8 0 ++ drop 8 payload else payload

-- the flag of a payload: 1 where the magic was taken out
unfoldable pub flag_of : List ℕ → ℕ
flag_of payload = if begins_with_magic payload then 1 else 0

-- the numbers of all places of the header, where the first ones are used
abbrev pub with_unused : List ℕ → List ℕ
with_unused numbers = numbers ++ replicate (header_places - length numbers) 0

-- the header of an entry
abbrev pub header_bytes : Entry → List ℕ
header_bytes e =
    spelled (8 ∷ 8 ∷ 8 ∷ 8 ∷ 8 ∷ []) (entry_magic ∷ e.number ∷ 1 ∷ 0 ∷ length e.targets ∷ [])
    ++ spelled (replicate header_places 8) (with_unused (map (λ t. t.0) e.targets))
    ++ spelled (replicate header_places 4) (with_unused (map (λ t. flag_of t.1) e.targets))
    ++ spelled (4 ∷ []) (0 ∷ [])

-- the header of an entry and its payloads as they are stored
abbrev pub entry_front : Entry → List (List ℕ)
entry_front e = header_bytes e ∷ map (λ t. stored t.1) e.targets

-- the commit of an entry, with the checksum of what stands before it
abbrev pub commit_bytes : Entry → List ℕ
commit_bytes e =
    let sum = crc32 (concat (entry_front e)) in
    spelled (8 ∷ 8 ∷ 8 ∷ 8 ∷ 4 ∷ 8156 ∷ []) (entry_magic ∷ e.number ∷ 2 ∷ 0 ∷ sum ∷ 0 ∷ [])

-- the blocks of an entry
abbrev pub entry_blocks : Entry → List (List ℕ)
entry_blocks e = entry_front e ++ commit_bytes e ∷ []

-- how many slots an entry takes
abbrev pub entry_slots : Entry → ℕ
entry_slots e = length e.targets + 2

-- a ring once around, from a slot on
abbrev pub ring_from : List (List ℕ) → ℕ → List (List ℕ)
ring_from ring slot = drop (slot % length ring) ring ++ take (slot % length ring) ring

-- the entry of this number at a slot of a ring, which follow one another around it, or none
abbrev pub entry_at : List (List ℕ) → ℕ → ℕ → ℕ → Option Entry
entry_at ring slot number meta = entry_of (ring_from ring slot) number meta
