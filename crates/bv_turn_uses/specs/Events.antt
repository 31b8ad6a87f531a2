-- What a session adds to the history.
use Rattle.std.specs.Prelude.{◌≡◌, ℕ, ◌==◌, ◌<◌, Bool, true, List, filter, map, take, slice_get, Some}
use Rattle.bv_turn.specs.Entries.{entries_of}
use Rattle.bv_turn_uses.specs.declared.event.Event.{Event}
use Rattle.bv_turn_uses.specs.declared.script.Line.{Line}

-- what session s adds with this amount
abbrev pub event : ℕ → ℕ → Event
event s amount = record { session = s; amount = amount }

-- the events of session s: one for each of its lines, in their order
abbrev pub events_of : ℕ → List Line → List Event
events_of s lines = map (λ l. event s l.amount) (filter (λ l. l.session == s) lines)

-- A session's list is the events of the first lines of the script, and where it did all its lines,
-- those of the whole script
pub record Served (s : ℕ) (lines : List Line) (list : List Event) (whole : Bool) : Type 0 where
  pub begins : (n : ℕ) × (list ≡ events_of s (take n lines))
  pub all : whole ≡ true → list ≡ events_of s lines

-- Each session's entries of the history are what it was to do. `whole` has a flag for each session,
-- at the place of its number
abbrev pub AllServed : (Event → ℕ) → ℕ → List Line → List Event → List Bool → Type 0
AllServed session sessions lines history whole =
    (s : ℕ) → s < sessions
    → (w : Bool) × (slice_get whole s ≡ Some w) × Served s lines (entries_of session s history) w
