-- What a session's slots hold: in the core what its own events say.
use Rattle.std.specs.Prelude.{◌≡◌, ℕ, Bool, true, false, List, [], ◌∷◌, Some, IsSomeAnd}
use Rattle.spec_tree.specs.declared.Digest.{Digest}
use Rattle.spec_core.specs.History.{History, Legal, last_state}
use Rattle.spec_core.specs.State.{find, held}
use Rattle.spec_core.specs.declared.act.Act.{Act}
use Rattle.spec_core.specs.declared.act.Act.TheVariants.{Unmount}
use Rattle.spec_core.specs.declared.event.CoreEvent.{CoreEvent}
use Rattle.spec_core.specs.declared.place.Place.{Place}
use Rattle.spec_session.specs.Conform.{events_of}
use Rattle.spec_session.specs.Own.{slot_holds}

-- a session's slot
abbrev pub slot_of : ℕ → ℕ → Place
slot_of s i = record { session = s; slot = i }

-- a root that a slot holds is in the map, and by its own events the session holds it there, with
-- its blob's size
abbrev pub SlotsHoldTheirOwn : Type 0
SlotsHoldTheirOwn =
    (h : History) (next s i : ℕ) (r : Digest) → Legal h next
    → held (last_state h next).slots (slot_of s i) ≡ Some r
    → IsSomeAnd (find (last_state h next).map r) (λ blob.
    slot_holds i (events_of s h.events) ≡ Some (r, blob.size))

-- whether an act is an unmount
abbrev pub is_unmount : Act → Bool
is_unmount Unmount = true
is_unmount act = false

-- none of these events is an unmount
abbrev pub AreMounted : List CoreEvent → Type 0
AreMounted [] = Unit {0}
AreMounted (e ∷ es) = (is_unmount e.act ≡ false) × AreMounted es

-- before an unmount, a root that a slot holds by its session's own events is held there
abbrev pub OwnSlotsAreHeld : Type 0
OwnSlotsAreHeld =
    (h : History) (next s i : ℕ) (r : Digest) (n : ℕ) → Legal h next → AreMounted h.events
    → slot_holds i (events_of s h.events) ≡ Some (r, n)
    → held (last_state h next).slots (slot_of s i) ≡ Some r
