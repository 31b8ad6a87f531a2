-- The parts of what an image holds after a stop, as its plain program tests them.
use Rattle.std.specs.Prelude.{◌≡◌, ◌≤◌, ℕ, List, map}
use Rattle.spec_tree.specs.declared.Digest.{Digest}
use Rattle.spec_tree.specs.declared.blob.Blob.{Blob}
use Rattle.spec_core.specs.History.{History, log_of}
use Rattle.spec_core.specs.Synced.{log_lengths, synced_by, logged_by}
use Rattle.plain_core.specs.declared.logged.Logged.{Logged}
use Rattle.spec_crash.specs.Crash.{IsLogLength, map_after}

-- the log of a history, and its length after each event
pub record IsLogOf (h : History) (logged : Logged) : Type 0 where
  pub changes : logged.changes.items ≡ log_of h
  pub lengths : logged.lengths.items ≡ map (λ e. e.1) (log_lengths h)

-- no event's changes are in part in the first `count`, and the map after them is this
abbrev pub IsMapAt : History → List (Digest × Blob) → ℕ → Type 0
IsMapAt h held count = IsLogLength h count × (map_after h count ≡ held)

-- a stop after so many calls may leave the map after the first `count` changes, and it is this
abbrev pub IsLeftAt : History → ℕ → List (Digest × Blob) → ℕ → Type 0
IsLeftAt h calls held count =
    (synced_by h calls ≤ count) × (count ≤ logged_by h calls) × IsMapAt h held count
