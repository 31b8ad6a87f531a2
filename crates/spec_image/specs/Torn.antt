-- What a stop within an add leaves of its journal entry (this project's profile).
--
-- The entry is written behind those of the synced disk, and nothing else of the journal is. Where
-- the image has its blocks in part, one of two blocks is missing: the header or the commit.
use Rattle.std.specs.Prelude.{◌≡◌, ℕ, ◌+◌, ◌%◌, ◌<◌, ◌≤◌, ◌⊎◌, List, Bool, false, ◌&&◌, ◌==◌, Some}
use Rattle.spec_disk.specs.declared.event.Event.{Event}
use Rattle.spec_disk.specs.Disk.{block, synced_after, last_after}
use Rattle.spec_record.specs.declared.geometry.Geometry.{Geometry}
use Rattle.spec_record.specs.declared.info.Info.{Info}
use Rattle.spec_record.specs.Geometry.{meta_blocks, ring_slots, info_at, slot_at, ring_in}
use Rattle.spec_record.specs.Field.{field}
use Rattle.spec_record.specs.Places.{begins_with_magic}
use Rattle.spec_record.specs.Entry.{Entry}
use Rattle.spec_record.specs.EntryBlocks.{entry_slots, entry_at}
use Rattle.spec_image.specs.Journal.{journal_of}
use Rattle.spec_image.specs.Replay.{slots_of_all, replay, next_slot, next_number}
use Rattle.spec_image.specs.Volume.{HasGeometry}
use Rattle.spec_image.specs.Chance.{SameSlots}

-- a block that begins with the magic of entries and this number
abbrev pub bears : ℕ → List ℕ → Bool
bears number bytes = begins_with_magic bytes && (field bytes 8 8 == number)

-- the block that is k slots past a slot
abbrev pub slot_block : Geometry → List (List ℕ) → ℕ → ℕ → List ℕ
slot_block g image slot k = block image (slot_at g ((slot + k) % ring_slots g))

-- the image's block in this slot doesn't begin with the magic and this number, or no block behind
-- it does
abbrev pub IsUnfinished : Geometry → List (List ℕ) → ℕ → ℕ → Type 0
IsUnfinished g image slot number =
    (bears number (slot_block g image slot 0) ≡ false)
    ⊎ ((k : ℕ) → 1 ≤ k → k < ring_slots g → bears number (slot_block g image slot k) ≡ false)

-- all blocks of the entry that was last written at this slot are in the image, which has no entry
-- behind it
pub record IsFinished (g : Geometry) (image last : List (List ℕ)) (slot number : ℕ) : Type 0 where
  pub entry : Entry
  pub written : entry_at (ring_in g last) slot number (meta_blocks g) ≡ Some entry
  pub there : SameSlots g image last slot (entry_slots entry)
  pub no_more : IsUnfinished g image (slot + entry_slots entry) (number + 1)

-- an image after these events, in which the next entry of the synced disk is torn or whole
pub record TornAdd
    (g : Geometry) (i : Info) (base : List (List ℕ)) (p : List Event) (j : List (List ℕ))
    : Type 0 where
  pub synced : HasGeometry (synced_after base p) g
  pub image : HasGeometry j g
  pub read : (journal_of g (synced_after base p)).info ≡ Some i
  pub info : block j (info_at g) ≡ block (synced_after base p) (info_at g)
  pub entries : SameSlots g j (synced_after base p) i.start
      (slots_of_all (replay (journal_of g (synced_after base p))))
  pub next : let s = journal_of g (synced_after base p) in
      IsUnfinished g j (next_slot s i) (next_number s i)
      ⊎ IsFinished g j (last_after base p) (next_slot s i) (next_number s i)
