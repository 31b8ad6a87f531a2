-- An extent: data blocks that follow one another, 8 bytes, little-endian. This project's profile.
--
-- | bits     | field  | value                                                            |
-- |----------|--------|------------------------------------------------------------------|
-- | 0 to 47  | start  | at least 1; start + length at most B                             |
-- | 48 to 63 | length | 1 to 65,535                                                      |
use Rattle.std.specs.Prelude.{◌≤◌, ◌<◌, ◌+◌, ◌*◌, ◌/◌, ◌%◌, ◌^◌, ℕ, Bool, ◌&&◌, nat_le, if◌then◌else◌, List, Option, Some, None}
use Rattle.spec_record.specs.declared.extent.Extent.{Extent}
use Rattle.spec_record.specs.Field.{number_of, bytes_of}
use Rattle.spec_record.specs.Tests.{IsBetween, is_between}

-- start and length in a number of 64 bits, in their ranges or not
abbrev pub extent_in : ℕ → Extent
extent_in number = record { start = number % 2 ^ 48; len = number / 2 ^ 48 }

-- the number in which an extent is stored
abbrev pub extent_number : Extent → ℕ
extent_number extent = extent.start + 2 ^ 48 * extent.len

-- the number tells start and length apart
pub record FitsExtent (extent : Extent) : Type 0 where
  pub start : extent.start < 2 ^ 48
  pub len : extent.len < 2 ^ 16

-- an extent of a volume with so many data blocks
pub record IsExtent (blocks : ℕ) (extent : Extent) : Type 0 where
  pub start : 1 ≤ extent.start
  pub len : IsBetween 1 extent.len 65535
  pub end : extent.start + extent.len ≤ blocks

-- the test of `IsExtent`
abbrev pub is_extent : ℕ → Extent → Bool
is_extent blocks extent =
    nat_le 1 extent.start && is_between 1 extent.len 65535
    && nat_le (extent.start + extent.len) blocks

-- the extent that eight bytes stand for in a volume with so many data blocks
unfoldable pub extent_of : List ℕ → ℕ → Option Extent
extent_of bytes blocks =
    let extent = extent_in (number_of bytes) in
    if is_extent blocks extent then Some extent else None

-- the eight bytes of an extent
abbrev pub extent_bytes : Extent → List ℕ
extent_bytes extent = bytes_of 8 (extent_number extent)
