-- The bitmap: one bit for each data block, 1 exactly where the block is block 0 or in an extent,
-- and 0 from the number of data blocks on. This project's profile.
--
-- | bit of the volume | where                                                          |
-- |-------------------|----------------------------------------------------------------|
-- | b                 | bit b mod 8, the lowest 0, of byte b div 8 of the region       |
use Rattle.std.specs.Prelude.{◌/◌, ◌%◌, ◌^◌, ℕ, Bool, ◌==◌, List, [], slice_index, slice_index_or}

-- bit b of bytes
abbrev pub bit : List ℕ → ℕ → Bool
bit bytes b = slice_index bytes (b / 8) / 2 ^ (b % 8) % 2 == 1

-- bit b of a bitmap, whose blocks have 65536 bits each
abbrev pub bitmap_bit : List (List ℕ) → ℕ → Bool
bitmap_bit bitmap b = bit (slice_index_or bitmap (b / 65536) []) (b % 65536)
