-- The image that a stop leaves by a choice of bytes.
--
-- The sectors with two candidates or more are those of the open blocks: the blocks that something
-- was written to since the last Ok sync. They are taken in rising order, each with the next byte of
-- the choice, which is the number of its candidate, from 0; a byte past the last candidate takes
-- the last. The last byte of the choice serves all sectors after it too, and an empty choice takes
-- what was synced everywhere.
use Rattle.std.specs.Prelude.{◌≡◌, ◌<◌, ◌+◌, ◌-◌, ◌*◌, ◌==◌, ℕ, zero, suc, min, List, [], length, if◌then◌else◌, slice_index, slice_index_or}
use Rattle.spec_disk.specs.declared.event.Event.{Event}
use Rattle.spec_disk.specs.Disk.{Blocks, block, sector, unsynced_part}
use Rattle.spec_disk.specs.Images.{written_to, candidates}

-- how many of the first n blocks these events write to
abbrev pub open_blocks : List Event → ℕ → ℕ
open_blocks since zero = 0
open_blocks since (suc n) =
    open_blocks since n + (if length (written_to n since) == 0 then 0 else 1)

-- the byte of the choice for the sector with this number among those of the open blocks, from 0
abbrev pub byte_for : List ℕ → ℕ → ℕ
byte_for choice number = slice_index choice (min number (length choice - 1))

-- number n of these, or the last where there are fewer
abbrev pub nth_or_last : List (List ℕ) → ℕ → List ℕ
nth_or_last these n = slice_index_or these (min n (length these - 1)) []

-- the candidate that the choice takes for sector s of block b
abbrev pub chosen_sector : Blocks → List Event → List ℕ → ℕ → ℕ → List ℕ
chosen_sector base p choice b s =
    nth_or_last (candidates base p b s) (byte_for choice (16 * open_blocks (unsynced_part p) b + s))

-- the image has as many blocks, and in each sector the candidate that the choice takes
pub record IsChosen (base : Blocks) (p : List Event) (choice : List ℕ) (image : Blocks)
    : Type 0 where
  pub as_long : length image ≡ length base
  pub each_sector : (b s : ℕ) → b < length base → s < 16
      → sector (block image b) s ≡ chosen_sector base p choice b s
