-- What one call, or a run of calls, does to the bytes that a source has left and a sink was given.
-- Either may not tell them: the words on known bytes then claim nothing.
use Rattle.std.specs.Prelude.{◌≡◌, ℕ, ◌-◌, ◌<◌, ◌≤◌, List, ◌++◌, length, take, Option, None, Some}
use Rattle.std.specs.Io.KnownBytes.{Appends, Consumes, IsAtEnd}

-- A source or a sink: the bytes that a source has left or a sink was given, where it tells them,
-- and how many of its calls have failed.
pub record Stream : Type 0 where
  pub told : Option (List ℕ)
  pub fault_count : ℕ

-- one call moved n bytes from the front of what was left into the buffer: none only at the end,
-- or with no room
pub record Takes (old new : Option (List ℕ)) (buffer : List ℕ) (n : ℕ) : Type 0 where
  pub within : n ≤ length buffer
  pub moved : Consumes old new (take n buffer)
  pub ended : n ≡ 0 → 0 < length buffer → IsAtEnd new

-- one call appended the first n bytes of a piece, and at least one of a nonempty piece
pub record Gives (old new : Option (List ℕ)) (piece : List ℕ) (n : ℕ) : Type 0 where
  pub within : n ≤ length piece
  pub some : 0 < length piece → 0 < n
  pub appended : Appends old new (take n piece)

-- some bytes were taken from the front, and the rest is left
abbrev pub TakesSome : Option (List ℕ) → Option (List ℕ) → Type 0
TakesSome old new = (bytes : List ℕ) × Consumes old new bytes

-- these bytes were taken, and none is left
pub record TakesAll (old new : Option (List ℕ)) (bytes : List ℕ) : Type 0 where
  pub moved : Consumes old new bytes
  pub ended : IsAtEnd new

-- n bytes were taken into the buffer, which is full then, or else none is left
pub record Fills (old new : Option (List ℕ)) (buffer : List ℕ) (n : ℕ) : Type 0 where
  pub within : n ≤ length buffer
  pub moved : Consumes old new (take n buffer)
  pub ended : n < length buffer → IsAtEnd new

-- some bytes were taken, fewer than the buffer has room for
pub record TakesFewer (old new : Option (List ℕ)) (buffer : List ℕ) : Type 0 where
  pub bytes : List ℕ
  pub fewer : length bytes < length buffer
  pub moved : Consumes old new bytes

-- a prefix of these bytes was appended
pub record GivesPrefix (old new : Option (List ℕ)) (bytes : List ℕ) : Type 0 where
  pub front : List ℕ
  pub rest : List ℕ
  pub split : bytes ≡ front ++ rest
  pub appended : Appends old new front

-- how many bytes were taken, where the source tells
abbrev pub taken_count : Option (List ℕ) → Option (List ℕ) → Option ℕ
taken_count (Some old) (Some new) = Some (length old - length new)
taken_count (Some old) None = None
taken_count None new = None
