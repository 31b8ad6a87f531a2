-- The entries that a journal holds, and the slots behind them that look like more (this project's
-- profile).
use Rattle.std.specs.Prelude.{◌≡◌, ℕ, zero, suc, ◌+◌, ◌-◌, ◌≤◌, List, [], ◌∷◌, length, map, filter, sum_by, Bool, nat_le, ◌&&◌, if◌then◌else◌, Option, Some, None, MatchOption, slice_index_or}
use Rattle.std.specs.List.{range_with_len}
use Rattle.spec_record.specs.declared.info.Info.{Info}
use Rattle.spec_record.specs.Field.{field}
use Rattle.spec_record.specs.Places.{begins_with_magic}
use Rattle.spec_record.specs.Entry.{Entry}
use Rattle.spec_record.specs.EntryBlocks.{entry_slots, entry_at}
use Rattle.spec_image.specs.Journal.{Journal, slot_past}

-- the slots of all these entries
abbrev pub slots_of_all : List Entry → ℕ
slots_of_all es = sum_by entry_slots es

-- the journal has these entries one after another, the first at this slot with this number: each
-- further one stands at the slot after the last with a number greater by one
abbrev pub StandFrom : Journal → ℕ → ℕ → List Entry → Type 0
StandFrom j slot number [] = Unit {0}
StandFrom j slot number (e ∷ es) =
    (entry_at j.ring slot number j.meta ≡ Some e)
    × StandFrom j (slot_past j slot (entry_slots e)) (number + 1) es

-- the entries stand one after another from the info's start with its number, and have no more slots
-- than the ring; a journal whose info isn't read has no entry
pub record AreAccepted (j : Journal) (es : List Entry) : Type 0 where
  pub stand : MatchOption j.info (es ≡ []) (λ i. StandFrom j i.start i.number es)
  pub fit : slots_of_all es ≤ length j.ring

-- Replay: the longest such list
pub record IsReplay (j : Journal) (es : List Entry) : Type 0 where
  pub accepted : AreAccepted j es
  pub longest : (others : List Entry) → AreAccepted j others → length others ≤ length es

-- what one more entry, or none, makes of the entries that follow it within so many slots
abbrev pub onto : Option Entry → ℕ → (Entry → List Entry) → List Entry
onto None room rest = []
onto (Some e) room rest = if nat_le (entry_slots e) room then e ∷ rest e else []

-- at most so many entries, within so many slots, from a slot and a number on
unfoldable pub entries_from : Journal → ℕ → ℕ → ℕ → ℕ → List Entry
entries_from j zero room slot number = []
entries_from j (suc most) room slot number =
    onto (entry_at j.ring slot number j.meta) room (λ e.
    entries_from j most (room - entry_slots e) (slot_past j slot (entry_slots e)) (number + 1))

-- the replay as a value; a law says that it is the one list that `IsReplay` describes
abbrev pub replay_at : Journal → Option Info → List Entry
replay_at j None = []
replay_at j (Some i) = entries_from j (length j.ring) (length j.ring) i.start i.number

-- the entries of a journal's replay
unfoldable pub replay : Journal → List Entry
replay j = replay_at j j.info

-- the number after those of the replay, for the info that was read
abbrev pub next_number : Journal → Info → ℕ
next_number j i = i.number + length (replay j)

-- the slot after those of the replay
abbrev pub next_slot : Journal → Info → ℕ
next_slot j i = slot_past j i.start (slots_of_all (replay j))

-- the slots of no accepted entry, in the order of the ring from the next slot on
abbrev pub free_slots : Journal → Info → List ℕ
free_slots j i =
    map (slot_past j (next_slot j i)) (range_with_len 0 (length j.ring - slots_of_all (replay j)))

-- the block begins with the magic of entries and a number from this one on, of whatever kind
abbrev pub is_stale_block : ℕ → List ℕ → Bool
is_stale_block next bytes = begins_with_magic bytes && nat_le next (field bytes 8 8)

-- the stale slots, in the order of the ring from the next slot on
unfoldable pub stale_slots : Journal → Info → List ℕ
stale_slots j i =
    filter (λ s. is_stale_block (next_number j i) (slice_index_or j.ring s [])) (free_slots j i)
