-- How the shares of a turn come back from their sessions.
use Rattle.std.specs.Prelude.{◌≡◌, ℕ, ◌≤◌, Bool, List, [], ◌∷◌, vec_capacity}
use Rattle.bv_turn.specs.declared.keeps.Keeps.{Ghosts}
use Rattle.bv_turn.specs.declared.turn.Share.{Share}
use Rattle.bv_turn.specs.declared.turn.Turn.{Turn}
use Rattle.bv_turn.specs.Tokens.{IsOf, IsIdle, session_of, list_of, basis_of}
use Rattle.bv_turn_uses.specs.declared.event.Event.{Event}
use Rattle.bv_turn_uses.specs.declared.run.Back.{Back}
use Rattle.bv_turn_uses.specs.declared.script.Script.{Script}
use Rattle.bv_turn_uses.specs.declared.session.Ended.{Ended}
use Rattle.bv_turn_uses.specs.Events.{Served}

module _ {T B : Type 0} {k : Ghosts T Event B} where
  -- a share of the turn that holds nothing and has no entry yet
  abbrev pub IsReady : Turn T Event B → Share T Event B k → Type 0
  IsReady t s = IsOf t s × IsIdle s × (list_of s ≡ [])

  -- a share comes back idle, with its session's part of the script as its list
  pub record ComesBack (t : Turn T Event B) (script : Script) (old new : Share T Event B k)
      (whole : Bool) : Type 0 where
    pub this : IsOf t new
    pub idle : IsIdle new
    pub session : session_of new ≡ session_of old
    pub basis : basis_of new ≡ basis_of old
    pub served : Served (session_of old) script.lines.items (list_of new) whole

  -- what a session's run gives back: its share as above, and whether all its lines were done
  abbrev pub EndOf : Turn T Event B → Script → Share T Event B k → Ended T Event B k → Type 0
  EndOf t script old e = ComesBack t script old e.share e.whole

  -- each share came back, at its place
  abbrev pub Ends : Turn T Event B → Script → List (Share T Event B k) → List (Share T Event B k)
      → List Bool → Type 0
  Ends t script [] [] [] = Unit {0}
  Ends t script (s ∷ ss) (e ∷ es) (w ∷ ws) = ComesBack t script s e w × Ends t script ss es ws
  Ends t script _ _ _ = ⊥

  -- each of these shares came back with its flag
  abbrev pub AllBack : Turn T Event B → Script → List (Share T Event B k) → Back T Event B k
      → Type 0
  AllBack t script shares b = Ends t script shares b.shares.items b.whole.items

module _ {T E B : Type 0} {k : Ghosts T E B} where
  -- nothing is there yet, and there is room for so many shares and their flags
  abbrev pub IsEmptyFor : ℕ → Back T E B k → Type 0
  IsEmptyFor n b =
      (b.shares.items ≡ []) × (b.whole.items ≡ [])
      × (n ≤ vec_capacity b.shares) × (n ≤ vec_capacity b.whole)

  -- the room for shares and flags is what it was
  abbrev pub SameRoom : Back T E B k → Back T E B k → Type 0
  SameRoom b c =
      (vec_capacity c.shares ≡ vec_capacity b.shares)
      × (vec_capacity c.whole ≡ vec_capacity b.whole)
