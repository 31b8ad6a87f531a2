-- The entries of one session in a history.
use Rattle.std.specs.Prelude.{ℕ, ◌+◌, ◌==◌, List, [], ◌∷◌, filter, if◌then◌else◌}

module _ {E : Type 0} (session : E → ℕ) where
  -- the entries of session s, in their order
  abbrev pub entries_of : ℕ → List E → List E
  entries_of s es = filter (λ e. session e == s) es

  -- the same entries, each with its number in the history, whose first entry has the number n
  abbrev pub numbered : ℕ → ℕ → List E → List (ℕ × E)
  numbered s n [] = []
  numbered s n (e ∷ es) =
      if session e == s then (n, e) ∷ numbered s (n + 1) es else numbered s (n + 1) es
