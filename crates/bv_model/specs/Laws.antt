-- What the room of a history means: the statement is the contract of a function of `laws`.
use Rattle.std.specs.Prelude.{◌≡◌, ℕ, ◌+◌, ◌-◌, ◌≤◌, None}
use Rattle.spec_core.specs.History.{History, setting_of, opening_map, first_state, last_state, room, Legal}
use Rattle.spec_core.specs.Room.{taken}

-- while no write or sync has failed, and where the opening's blobs fit on the volume, the room and
-- the taken blocks are together all blocks but block 0: no more is taken than there is
abbrev pub RoomIsExact : Type 0
RoomIsExact =
    (h : History) (next : ℕ) → Legal h next → (last_state h next).stopped ≡ None
    → taken (setting_of h) (first_state (opening_map h) next) ≤ h.blocks - 1
    → room h + taken (setting_of h) (last_state h next) ≡ h.blocks - 1
