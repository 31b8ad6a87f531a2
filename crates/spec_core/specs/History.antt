-- The history of a mount (this project's profile).
use Rattle.std.specs.Prelude.{ℕ, ◌≤◌, List, [], ◌∷◌, ◌++◌, map, None}
use Rattle.std.specs.List.Sorted.{IsStrictlySortedBy}
use Rattle.std.specs.Map.{keys_of}
use Rattle.spec_tree.specs.declared.Digest.{Digest}
use Rattle.spec_tree.specs.Order.{digest_cmp}
use Rattle.spec_core.specs.Room.{room_in, worst_sum_in}
use Rattle.spec_core.specs.State.{State}
use Rattle.spec_core.specs.Step.{Steps, state_after}
use Rattle.spec_tree.specs.declared.blob.Blob.{Blob}
use Rattle.spec_core.specs.declared.event.CoreEvent.{CoreEvent}
use Rattle.spec_core.specs.declared.map_change.MapChange.{MapChange}
use Rattle.spec_core.specs.declared.setting.Setting.{Setting}

-- a history
pub record History : Type 0 where
  -- root, size and version of each blob that stood there as the mount began
  pub opening : List (Digest × ℕ × ℕ)
  pub blocks : ℕ
  pub nodes : ℕ
  pub version : ℕ
  pub events : List CoreEvent

-- the numbers of the volume
abbrev pub setting_of : History → Setting
setting_of h = record { blocks = h.blocks; nodes = h.nodes; version = h.version }

-- the opening list as a map
abbrev pub opening_map : History → List (Digest × Blob)
opening_map h = map (λ e. (e.0, record { size = e.1; version = e.2 })) h.opening

-- the state that a mount begins with, where next is the number of its first entry
abbrev pub first_state : List (Digest × Blob) → ℕ → State
first_state blobs next = record {
  map = blobs;
  log = [];
  durable = 0;
  slots = [];
  leaving = [];
  queue = [];
  adds = [];
  stopped = None;
  next = next;
}

-- the state after the events of a history
abbrev pub last_state : History → ℕ → State
last_state h next = state_after (setting_of h) (first_state (opening_map h) next) h.events

-- the relation holds from each of these to the next
abbrev pub FromEachToNext : {X : Type 0} → (X → X → Type 0) → List X → Type 0
FromEachToNext R [] = Unit {0}
FromEachToNext R (x ∷ []) = Unit {0}
FromEachToNext R (x ∷ y ∷ xs) = R x y × FromEachToNext R (y ∷ xs)

-- the calls never fall, from this number on
abbrev pub NeverFall : ℕ → List CoreEvent → Type 0
NeverFall calls [] = Unit {0}
NeverFall calls (e ∷ events) = (calls ≤ e.calls) × NeverFall e.calls events

-- Legal: the opening is a map in the order of the roots' bytes, the events are Steps one after
-- another, of which the first entry has the number `next`, and calls never falls
pub record Legal (h : History) (next : ℕ) : Type 0 where
  pub sorted : IsStrictlySortedBy digest_cmp (keys_of (opening_map h))
  pub steps : Steps (setting_of h) (first_state (opening_map h) next) h.events
  pub calls : NeverFall 0 h.events

-- Log: the publications and purges of a history. Numbers of entries play no part in it
abbrev pub log_of : History → List MapChange
log_of h = (last_state h 0).log

-- Room: the room that a history leaves
abbrev pub room : History → ℕ
room h = room_in (setting_of h) (last_state h 0)

-- WorstSum: the most nodes of a history's map and adds
abbrev pub worst_sum : History → ℕ
worst_sum h = worst_sum_in (setting_of h) (last_state h 0)

-- a history with one event more
abbrev pub with_event : History → CoreEvent → History
with_event h e = record h { events = h.events ++ e ∷ [] }
