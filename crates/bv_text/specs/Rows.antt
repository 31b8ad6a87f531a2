-- What the events so far tell of the lines of a script: a row a line, at the place of its number.
use Rattle.std.specs.Prelude.{◌≡◌, ℕ, ◌<◌, Bool, true, false, cond, not, List, map, length, get_or, Option, Some, None}
use Rattle.std.specs.List.{AllByRecursion, list_any}
use Rattle.std.specs.Option.{option_map}
use Rattle.spec_core.specs.History.{History, first_state, opening_map, setting_of}
use Rattle.spec_core.specs.State.{State}
use Rattle.spec_core.specs.Step.{state_after}
use Rattle.spec_core.specs.declared.event.CoreEvent.{CoreEvent}
use Rattle.spec_core.specs.declared.who.Who.{Who}
use Rattle.spec_script.specs.declared.command.Command.{Command}
use Rattle.spec_script.specs.declared.command.Command.TheVariants as commands
use Rattle.spec_script.specs.declared.line.ScriptLine.{ScriptLine}
use Rattle.spec_script.specs.Tasks.{task_of}
use Rattle.spec_session.specs.Told.{answer_next, answer_of, events_before, listed_at, or_else, present_blobs, root_next, root_told, same_who, task_root, who_of}
use Rattle.spec_tree.specs.declared.Digest.{Digest}
use Rattle.bv_text.specs.declared.row.Row.{Row}

-- ---- one event

-- the row of a line that isn't there
abbrev pub no_row : Row
no_row = record { session = 0; lists = false; root = None; answer = None; listing = None }

-- who makes the events of a row's line
abbrev pub who_in : ℕ → Row → Who
who_in number row = record { session = row.session; line = number }

-- the listing that a row has
abbrev pub blobs_in : Row → Option (List (Digest × ℕ))
blobs_in row = option_map (λ blobs. blobs.items) row.listing

-- the listing one event later, where the core was in this state before the event
abbrev pub listing_next : State → Who → Option (List (Digest × ℕ)) → CoreEvent → Option (List (Digest × ℕ))
listing_next s who listing e =
    cond (same_who who e.who) (or_else listing (Some (present_blobs s))) listing

-- the row of this number one event later, where the core was in this state before the event
pub record Notes (s : State) (e : CoreEvent) (number : ℕ) (old new : Row) : Type 0 where
  pub session : new.session ≡ old.session
  pub lists : new.lists ≡ old.lists
  pub root : new.root ≡ root_next (who_in number old) old.root e
  pub answer : new.answer ≡ answer_next (who_in number old) old.answer e
  pub listing : old.lists ≡ true → blobs_in new ≡ listing_next s (who_in number old) (blobs_in old) e

-- all rows one event later
pub record NotesAll (s : State) (e : CoreEvent) (old new : List Row) : Type 0 where
  pub len : length new ≡ length old
  pub each : (n : ℕ) → n < length old → Notes s e n (get_or old n no_row) (get_or new n no_row)

-- ---- the events so far

-- what was present when a line began, if it did
abbrev pub listed_by : History → Who → List CoreEvent → Option (List (Digest × ℕ))
listed_by h who events =
    cond (list_any (λ e. same_who who e.who) events)
    (Some (present_blobs
    (state_after (setting_of h) (first_state (opening_map h) 0) (events_before who events))))
    None

-- the row of this number says what these events tell
pub record IsRow (h : History) (events : List CoreEvent) (number : ℕ) (row : Row) : Type 0 where
  pub root : row.root ≡ root_told (who_in number row) events
  pub answer : row.answer ≡ answer_of (who_in number row) events
  pub listing : row.lists ≡ true → blobs_in row ≡ listed_by h (who_in number row) events

-- all rows do
abbrev pub AreRows : History → List CoreEvent → List Row → Type 0
AreRows h events rows = (n : ℕ) → n < length rows → IsRow h events n (get_or rows n no_row)

-- ---- the lines of a script

-- whether a command lists
abbrev pub is_list : Command → Bool
is_list commands.List = true
is_list _ = false

-- the row at the number of a line is that of the line
pub record HasRow (rows : List Row) (line : ScriptLine) : Type 0 where
  pub within : line.number < length rows
  pub session : (get_or rows line.number no_row).session ≡ line.session
  pub lists : (get_or rows line.number no_row).lists ≡ is_list line.command

-- each line has its row
abbrev pub HaveRows : List Row → List ScriptLine → Type 0
HaveRows rows lines = AllByRecursion (HasRow rows) lines

-- ---- what a line shows

-- a row, and the state after all events, say what a line of the history shows
pub record Shows (h : History) (row : Row) (last : State) (line : ScriptLine) : Type 0 where
  pub root : row.root ≡ task_root (task_of line.command)
  pub answer : row.answer ≡ answer_of (who_of line) h.events
  pub listing : is_list line.command ≡ true
      → or_else (blobs_in row) (Some (present_blobs last)) ≡ Some (listed_at h (who_of line))

-- each line has a row that does
abbrev pub ShowAll : History → List Row → State → List ScriptLine → Type 0
ShowAll h rows last lines = AllByRecursion
    (λ line. (line.number < length rows) × Shows h (get_or rows line.number no_row) last line)
    lines
