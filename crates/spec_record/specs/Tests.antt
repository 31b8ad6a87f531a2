-- The tests of a record: each comes with the fault that tells of it, and the first that fails
-- counts.
use Rattle.std.specs.Prelude.{◌≤◌, ◌+◌, ℕ, Bool, ◌&&◌, ◌==◌, nat_le, if◌then◌else◌, List, [], ◌∷◌, drop, Result, Ok, Err}

-- the value where every test holds, else the fault of the first that fails
abbrev pub value_or_fault : {A E : Type 0} → List (Bool × E) → A → Result A E
value_or_fault [] value = Ok value
value_or_fault (test ∷ tests) value = if test.0 then value_or_fault tests value else Err test.1

-- a number is in a range, both ends within
pub record IsBetween (low number high : ℕ) : Type 0 where
  pub from_low : low ≤ number
  pub to_high : number ≤ high

-- the test of `IsBetween`
abbrev pub is_between : ℕ → ℕ → ℕ → Bool
is_between low number high = nat_le low number && nat_le number high

-- how many zeros a list begins with
abbrev pub zeros_in_front : List ℕ → ℕ
zeros_in_front [] = 0
zeros_in_front (byte ∷ bytes) = if byte == 0 then 1 + zeros_in_front bytes else 0

-- the offset of the first byte that isn't zero, from an offset on
unfoldable pub first_set : List ℕ → ℕ → ℕ
first_set bytes offset = offset + zeros_in_front (drop offset bytes)
