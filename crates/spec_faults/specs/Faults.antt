-- Counts of failed calls, by which a caller sees that an object failed and no body made it up.
use Rattle.std.specs.Prelude.{◌≡◌, ℕ, ◌+◌, ◌-◌, ◌^◌, ◌≤◌, min, Result, OnOk, OnErr}

-- a count with one more: at the top of a `u64` it stands still
abbrev pub one_more : ℕ → ℕ
one_more count = min (count + 1) (2 ^ 64 - 1)

-- A count has risen. At its top, where it stands still, each further failure is a rise.
abbrev pub Rose : ℕ → ℕ → Type 0
Rose before now = one_more before ≤ now

-- The count never falls, an error comes only where it rose, and none is passed over at `Ok`.
pub record CountsFaults {T E : Type 0} (before now : ℕ) (result : Result T E) : Type 0 where
  pub later : before ≤ now
  pub failed : OnErr result (Rose before now)
  pub kept : OnOk result (now ≡ before)

-- The same, where only the answer P tells of a fault, and each other answer leaves the count.
pub record CountsFaultsWhere (P : Type 0) (before now : ℕ) : Type 0 where
  pub later : before ≤ now
  pub failed : P → Rose before now
  pub kept : ¬ P → now ≡ before
