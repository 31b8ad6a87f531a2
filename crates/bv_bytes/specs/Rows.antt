-- What a write of one field makes of the bytes, and which row of a table the field is.
use Rattle.std.specs.Prelude.{ℕ, zero, suc, ◌+◌, Bool, false, ◌==◌, nat_le, ◌&&◌, List, [], ◌∷◌, ◌++◌, take, drop}
use Rattle.spec_record.specs.Field.{bytes_of}

-- bytes with a number in the field of this width at an offset
unfoldable pub with_field : List ℕ → ℕ → ℕ → ℕ → List ℕ
with_field bytes offset width number =
    take offset bytes ++ bytes_of width number ++ drop (offset + width) bytes

-- row k of a table whose rows begin at byte `at` is the field of this width at this offset
abbrev pub is_row : ℕ → List ℕ → ℕ → ℕ → ℕ → Bool
is_row at [] k offset width = false
is_row at (w ∷ widths) zero offset width = (at == offset) && (w == width)
is_row at (w ∷ widths) (suc k) offset width =
    nat_le (at + w) offset && is_row (at + w) widths k offset width
