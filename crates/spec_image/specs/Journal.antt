-- The journal of an image: its info block, and the ring of slots behind it (this project's
-- profile).
--
-- An image is its list of blocks. Slots count from 0 and follow one another modulo their number.
use Rattle.std.specs.Prelude.{ℕ, ◌+◌, ◌%◌, List, length, Option, Some}
use Rattle.spec_disk.specs.Disk.{block}
use Rattle.spec_record.specs.declared.geometry.Geometry.{Geometry}
use Rattle.spec_record.specs.declared.info.Info.{Info}
use Rattle.spec_record.specs.Geometry.{meta_blocks, ring_slots, info_at, ring_in}
use Rattle.spec_record.specs.Info.{info_of}

-- what the info block says, or none; the block in each slot; and M, the metadata blocks that an
-- entry may name
pub record Journal : Type 0 where
  pub info : Option Info
  pub ring : List (List ℕ)
  pub meta : ℕ

-- the journal of an image of this geometry
unfoldable pub journal_of : Geometry → List (List ℕ) → Journal
journal_of g image = record {
  info = info_of (block image (info_at g)) (ring_slots g);
  ring = ring_in g image;
  meta = meta_blocks g;
}

-- the journal of an info that was read
abbrev pub journal_with : Info → List (List ℕ) → ℕ → Journal
journal_with i ring meta = record { info = Some i; ring = ring; meta = meta }

-- the slot that is n slots past a slot
abbrev pub slot_past : Journal → ℕ → ℕ → ℕ
slot_past j slot n = (slot + n) % length j.ring
