-- Fields: numbers of a few bytes each, the lowest byte first, that stand one after another. A
-- record is a table of fields, given by their widths. This project's profile.
use Rattle.std.specs.Prelude.{◌≡◌, ◌<◌, ◌+◌, ◌*◌, ◌/◌, ◌%◌, ◌^◌, ℕ, zero, suc, List, [], ◌∷◌, ◌++◌, length, take, drop, slice_index}

-- each byte is below 256
abbrev pub IsBytes : List ℕ → Type 0
IsBytes bytes = (i : ℕ) → slice_index bytes i < 256

-- a block of the device is 8192 bytes
pub record IsBlock (bytes : List ℕ) : Type 0 where
  pub length_is : length bytes ≡ 8192
  pub bytes_fit : IsBytes bytes

-- the number that bytes spell, the lowest first
unfoldable pub number_of : List ℕ → ℕ
number_of [] = 0
number_of (byte ∷ bytes) = byte + 256 * number_of bytes

-- the lowest bytes of a number, `width` of them, the lowest first
unfoldable pub bytes_of : ℕ → ℕ → List ℕ
bytes_of zero number = []
bytes_of (suc width) number = number % 256 ∷ bytes_of width (number / 256)

-- the field at an offset, of so many bytes
unfoldable pub field : List ℕ → ℕ → ℕ → ℕ
field bytes offset width = number_of (take width (drop offset bytes))

-- the fields of these widths, one after another from an offset on
abbrev pub fields : ℕ → List ℕ → List ℕ → List ℕ
fields offset [] bytes = []
fields offset (width ∷ widths) bytes =
    field bytes offset width ∷ fields (offset + width) widths bytes

-- the bytes of fields of these widths that hold these numbers
abbrev pub spelled : List ℕ → List ℕ → List ℕ
spelled [] numbers = []
spelled (width ∷ widths) [] = []
spelled (width ∷ widths) (number ∷ numbers) = bytes_of width number ++ spelled widths numbers

-- how many bytes fields of these widths take
abbrev pub total_width : List ℕ → ℕ
total_width [] = 0
total_width (width ∷ widths) = width + total_width widths

-- there is a number for each width, and each fits its own
abbrev pub AllFit : List ℕ → List ℕ → Type 0
AllFit [] [] = Unit {0}
AllFit [] (number ∷ numbers) = ⊥
AllFit (width ∷ widths) [] = ⊥
AllFit (width ∷ widths) (number ∷ numbers) = (number < 256 ^ width) × AllFit widths numbers
