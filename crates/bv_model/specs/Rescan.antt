-- What one deed does at a place, to a root, and to how many there are: the steps of the calls that
-- go over a history without memory, each proved to be the core's own.
use Rattle.std.specs.Prelude.{ℕ, Bool, false, cond, not, ◌+◌, ◌-◌, ◌==◌, ◌&&◌, ◌||◌, Option, Some, None, take}
use Rattle.std.specs.Ordering.{eq_by_cmp}
use Rattle.spec_tree.specs.declared.Digest.{Digest}
use Rattle.spec_tree.specs.Order.{same_digest}
use Rattle.spec_core.specs.History.{History, setting_of, opening_map, first_state, Legal}
use Rattle.spec_core.specs.Order.{place_cmp}
use Rattle.spec_core.specs.State.{State, among, held, holders}
use Rattle.spec_core.specs.Step.{state_after}
use Rattle.spec_core.specs.declared.deed.Deed.{Deed}
use Rattle.spec_core.specs.declared.deed.Deed.TheVariants.{Opens, Closes, Unlinks, Publishes, Purges, Empties}
use Rattle.spec_core.specs.declared.place.Place.{Place}
use Rattle.bv_model.specs.declared.rescan.Lengths.{Lengths}
use Rattle.bv_model.specs.declared.rescan.Standing.{Standing}

-- the state after the first so many events of a history
abbrev pub state_at : History → ℕ → ℕ → State
state_at h next count =
    state_after (setting_of h) (first_state (opening_map h) next) (take count h.events)

-- in a legal history, this holds after the first so many events
abbrev pub After : History → ℕ → (State → Type 0) → Type 0
After h count Holds = (next : ℕ) → Legal h next → Holds (state_at h next count)

-- ---- what a place holds

-- what a place holds after a deed
abbrev pub held_next : Place → Option Digest → Deed → Option Digest
held_next p was (Opens q r) = cond (eq_by_cmp place_cmp p q) (Some r) was
held_next p was (Closes q) = cond (eq_by_cmp place_cmp p q) None was
held_next p was (Empties purges) = None
held_next p was _ = was

-- ---- how a root stands

-- how many slots hold a root, and whether it is leaving
abbrev pub standing_in : State → Digest → Standing
standing_in s r = record { holders = holders s.slots r; leaving = among s.leaving r }

-- what nothing holds
abbrev pub nowhere : Standing
nowhere = record { holders = 0; leaving = false }

-- one slot holds it no longer: with the last it goes
abbrev pub less_one : Standing → Standing
less_one was = record {
  holders = was.holders - 1;
  leaving = was.leaving && not (was.holders - 1 == 0);
}

-- the root leaves with a slot that is closed, the last that held it
abbrev pub goes_with : Standing → Bool
goes_with root = root.leaving && (root.holders - 1 == 0)

-- whether a place held this root
abbrev pub is_root : Digest → Option Digest → Bool
is_root r None = false
is_root r (Some x) = same_digest r x

-- how a root stands after a deed, before which this was held at the place that is closed
abbrev pub standing_next : Digest → Standing → Option Digest → Deed → Standing
standing_next r was at (Opens p x) =
    cond (same_digest r x) (record was { holders = was.holders + 1 }) was
standing_next r was at (Closes p) = cond (is_root r at) (less_one was) was
standing_next r was at (Unlinks x) =
    cond (same_digest r x) (record was { leaving = was.leaving || not (was.holders == 0) }) was
standing_next r was at (Empties purges) = nowhere
standing_next r was at _ = was

-- what is held at the place that a deed closes
abbrev pub closed_root : State → Deed → Option Digest
closed_root s (Closes p) = held s.slots p
closed_root s _ = None

-- how the root stands that a place held, if it held one
abbrev pub standing_of_root : State → Option Digest → Standing
standing_of_root s None = nowhere
standing_of_root s (Some r) = standing_in s r

-- how the root stands that a deed unlinks, or closes a place of
abbrev pub standing_for : State → Deed → Standing
standing_for s (Closes p) = standing_of_root s (held s.slots p)
standing_for s (Unlinks r) = standing_in s r
standing_for s _ = nowhere

-- ---- how many

-- all of them together
abbrev pub in_all : Lengths → ℕ
in_all t = t.log + t.leaving + t.queue

-- the queue is purged
abbrev pub all_purged : Lengths → Lengths
all_purged t = record t { log = t.log + t.queue; queue = 0 }

-- how many there are after a deed, before which the root that it closes or unlinks stood so
abbrev pub lengths_next : Lengths → Standing → Deed → Lengths
lengths_next t root (Closes p) =
    cond (goes_with root) (record t { leaving = t.leaving - 1; queue = t.queue + 1 }) t
lengths_next t root (Unlinks r) =
    cond (root.holders == 0)
    (record t { queue = t.queue + 1 })
    (record t { leaving = t.leaving + 1 })
lengths_next t root (Publishes r) = record (all_purged t) { log = t.log + t.queue + 1 }
lengths_next t root Purges = all_purged t
lengths_next t root (Empties purges) =
    let all : Lengths = record t { leaving = 0; queue = t.queue + t.leaving } in
    cond purges (all_purged all) all
lengths_next t root _ = t
