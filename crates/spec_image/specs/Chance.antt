-- Entries that a stop may leave in a journal (this project's profile).
--
-- A write under way when the machine stops may leave some sectors of an entry's blocks as they
-- were. Such blocks match the entry's checksum only by chance: that they don't is a premise of
-- every statement on stops.
use Rattle.std.specs.Prelude.{◌≡◌, ℕ, ◌+◌, ◌%◌, ◌<◌, ◌⊎◌, List, [], ◌∷◌, Option, Some, None, IsSomeAnd, Contains}
use Rattle.spec_disk.specs.declared.event.Event.{Event}
use Rattle.spec_disk.specs.Disk.{block, synced_after, last_after}
use Rattle.spec_record.specs.declared.geometry.Geometry.{Geometry}
use Rattle.spec_record.specs.declared.superblock.Super.{Super}
use Rattle.spec_record.specs.declared.info.Info.{Info}
use Rattle.spec_record.specs.Geometry.{slot_at, ring_slots}
use Rattle.spec_record.specs.Entry.{Entry}
use Rattle.spec_record.specs.EntryBlocks.{entry_slots}
use Rattle.spec_image.specs.Journal.{Journal, journal_of, slot_past}
use Rattle.spec_image.specs.Replay.{replay}
use Rattle.spec_image.specs.Volume.{image_super}

-- these entries, each with the slot at which it stands where the first stands at this one
abbrev pub placed_from : Journal → ℕ → List Entry → List (ℕ × Entry)
placed_from j slot [] = []
placed_from j slot (e ∷ es) = (slot, e) ∷ placed_from j (slot_past j slot (entry_slots e)) es

-- the entries of the replay, each with its slot
abbrev pub placed_at : Journal → Option Info → List (ℕ × Entry)
placed_at j None = []
placed_at j (Some i) = placed_from j i.start (replay j)

-- the replay of an image accepts this entry at this slot
abbrev pub Accepts : List (List ℕ) → ℕ → Entry → Type 0
Accepts image slot e =
    IsSomeAnd (image_super image) (λ s.
    let j = journal_of s.geometry image in Contains (placed_at j j.info) (slot, e))

-- two images have the same blocks in so many slots of the ring, from this one on
abbrev pub SameSlots : Geometry → List (List ℕ) → List (List ℕ) → ℕ → ℕ → Type 0
SameSlots g a b slot n =
    (k : ℕ) → k < n
    → let at = slot_at g ((slot + k) % ring_slots g) in block a at ≡ block b at

-- NoChance: each entry that the replay of j accepts is accepted in the synced disk too, the same at
-- the same slot, or its blocks in j are those that were last written there
abbrev pub NoChance : List (List ℕ) → List Event → List (List ℕ) → Type 0
NoChance base p j = (s : Super) (slot : ℕ) (e : Entry) → image_super j ≡ Some s → Accepts j slot e
    → Accepts (synced_after base p) slot e
    ⊎ SameSlots s.geometry j (last_after base p) slot (entry_slots e)
