-- What the program of chances finds, as values of the definitions.
use Rattle.std.specs.Prelude.{ℕ, List, ◌⊎◌, Contains}
use Rattle.spec_record.specs.declared.geometry.Geometry.{Geometry}
use Rattle.spec_record.specs.Entry.{Entry}
use Rattle.spec_record.specs.EntryBlocks.{entry_slots}
use Rattle.spec_image.specs.Chance.{SameSlots}
use Rattle.plain_crash.specs.declared.chances.Placed.{Placed}

-- the slot and the entry that was accepted there
abbrev pub placed_entry : Placed → ℕ × Entry
placed_entry p = (p.slot, p.entry)

-- an entry at its slot is among the synced ones, or its blocks in an image are those that were
-- written last
abbrev pub IsKnown : List (ℕ × Entry) → Geometry → List (List ℕ) → List (List ℕ) → ℕ × Entry
    → Type 0
IsKnown synced g image last p =
    Contains synced p ⊎ SameSlots g image last p.0 (entry_slots p.1)
