-- The places that the header of a journal entry has for targets and flags, by the tables of
-- `Entry`. This project's profile.
use Rattle.std.specs.Prelude.{◌+◌, ◌-◌, ◌*◌, ℕ, zero, suc, Bool, not, ◌&&◌, ◌||◌, ◌==◌, nat_lt, if◌then◌else◌, List, [], slice_index_or, Option, Some, None}
use Rattle.spec_record.specs.Field.{field}

-- the number with which headers and commits begin
abbrev pub entry_magic : ℕ
entry_magic = 0x626c6f626e747279

-- the places that a header has for targets and for flags
unfoldable pub header_places : ℕ
header_places = 679

-- the block at a place of a list
abbrev pub block_in : List (List ℕ) → ℕ → List ℕ
block_in blocks place = slice_index_or blocks place []

-- a block begins as headers and commits do
abbrev pub begins_with_magic : List ℕ → Bool
begins_with_magic block = field block 0 8 == entry_magic

-- the target at a place of a header
abbrev pub target_in : List ℕ → ℕ → ℕ
target_in header place = field header (40 + 8 * place) 8

-- the flag at a place of a header
abbrev pub flag_in : List ℕ → ℕ → ℕ
flag_in header place = field header (5472 + 4 * place) 4

-- a flag is 1 over eight zeros, or 0 over no magic
abbrev pub is_escape : ℕ → List ℕ → Bool
is_escape flag block =
    ((flag == 1) && (field block 0 8 == 0)) || ((flag == 0) && not (begins_with_magic block))

-- a used place: its target is above the one before and below M, its flag fits the stored payload
abbrev pub is_used_place : List ℕ → ℕ → ℕ → List ℕ → Bool
is_used_place header meta place payload =
    ((place == 0) || nat_lt (target_in header (place - 1)) (target_in header place))
    && nat_lt (target_in header place) meta
    && is_escape (flag_in header place) payload

-- an unused place: target and flag are 0
abbrev pub is_unused_place : List ℕ → ℕ → Bool
is_unused_place header place = (target_in header place == 0) && (flag_in header place == 0)

-- a place of the header is as the count asks for; the payloads stand after the header
abbrev pub is_place : List (List ℕ) → ℕ → ℕ → Bool
is_place blocks meta place =
    let header = block_in blocks 0 in
    if nat_lt place (field header 32 8)
    then is_used_place header meta place (block_in blocks (place + 1))
    else is_unused_place header place

-- the first number at which a test fails, among `count` numbers from `start` on
unfoldable pub first_failing : (ℕ → Bool) → ℕ → ℕ → Option ℕ
first_failing test start zero = None
first_failing test start (suc count) =
    if test start then first_failing test (start + 1) count else Some start

-- the first place of the header that is wrong
abbrev pub wrong_place : List (List ℕ) → ℕ → Option ℕ
wrong_place blocks meta = first_failing (is_place blocks meta) 0 header_places
