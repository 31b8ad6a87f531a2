-- The ranges of an entry that is written.
use Rattle.std.specs.Prelude.{◌<◌, ◌-◌, ◌^◌, ℕ, length, map, All}
use Rattle.std.specs.List.Sorted.{IsStrictlyIncreasing}
use Rattle.spec_record.specs.Tests.{IsBetween}
use Rattle.spec_record.specs.Entry.{Entry}

-- the numbers are those of an entry in a volume of M metadata blocks; that each payload is a block
-- is said by its type
pub record InRanges (meta : ℕ) (e : Entry) : Type 0 where
  pub number : IsBetween 1 e.number (2 ^ 62 - 1)
  pub count : IsBetween 1 (length e.targets) meta
  pub rising : IsStrictlyIncreasing (map (λ t. t.0) e.targets)
  pub below : All (λ t. t.0 < meta) e.targets
