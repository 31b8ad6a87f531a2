-- A source and a sink in memory, whose calls fail by a list of numbers.
use Rattle.std.specs.Prelude.{ℕ, List, Contains}
use Rattle.spec_faults.specs.Faults.{one_more}

-- a source in memory: the bytes not yet taken, the numbers of the calls that fail, the calls made,
-- and those that failed
pub record HeldSource : Type 0 where
  pub left : List ℕ
  pub fails : List ℕ
  pub calls : ℕ
  pub faults : ℕ

-- a sink in memory: the bytes given, as above, and how often memory was missing
pub record HeldSink : Type 0 where
  pub given : List ℕ
  pub fails : List ℕ
  pub calls : ℕ
  pub faults : ℕ
  pub short : ℕ

-- the next call is one that fails: its number, counted from 1, is named
abbrev pub IsNamed : List ℕ → ℕ → Type 0
IsNamed fails calls = Contains fails (one_more calls)
