-- How the shares of a turn come back from their sessions.
use Rattle.std.specs.Prelude.{◌≡◌, ℕ, ◌≤◌, List, [], ◌∷◌, vec_capacity}
use Rattle.spec_script.specs.declared.line.ScriptLine.{ScriptLine}
use Rattle.spec_session.specs.declared.end.SessionEnd.{SessionEnd}
use Rattle.bv_turn.specs.declared.keeps.Keeps.{Ghosts}
use Rattle.bv_turn.specs.declared.turn.Share.{Share}
use Rattle.bv_turn.specs.declared.turn.Turn.{Turn}
use Rattle.bv_session.specs.declared.entry.Basis.{Basis}
use Rattle.bv_session.specs.declared.entry.Entry.{Entry}
use Rattle.bv_session.specs.Ends.{ComesBack}
use Rattle.bv_sessions.specs.declared.back.Back.{Back}

module _ {T : Type 0} {k : Ghosts T Entry Basis} where
  -- each of these shares came back, at its place, with its session's end
  abbrev pub ComeBack
      : Turn T Entry Basis → List ScriptLine → ℕ → List (Share T Entry Basis k)
      → List (Share T Entry Basis k) → List SessionEnd → Type 0
  ComeBack t lines version [] [] [] = Unit {0}
  ComeBack t lines version (s ∷ ss) (b ∷ bs) (e ∷ es) =
      ComesBack t lines version s b e × ComeBack t lines version ss bs es
  ComeBack t lines version _ _ _ = ⊥

  -- the same, of what came back together
  abbrev pub AllBack
      : Turn T Entry Basis → List ScriptLine → ℕ → List (Share T Entry Basis k)
      → Back T Entry Basis k → Type 0
  AllBack t lines version shares b = ComeBack t lines version shares b.shares.items b.ends.items

module _ {T E B : Type 0} {k : Ghosts T E B} where
  -- nothing came back yet, and there is room for so many shares and ends
  abbrev pub IsEmptyFor : ℕ → Back T E B k → Type 0
  IsEmptyFor n b =
      (b.shares.items ≡ []) × (b.ends.items ≡ [])
      × (n ≤ vec_capacity b.shares) × (n ≤ vec_capacity b.ends)

  -- the room is what it was
  abbrev pub SameRoom : Back T E B k → Back T E B k → Type 0
  SameRoom b c =
      (vec_capacity c.shares ≡ vec_capacity b.shares)
      × (vec_capacity c.ends ≡ vec_capacity b.ends)
