-- Images that agree in the parts of a volume on which a definition depends (this project's
-- profile).
use Rattle.std.specs.Prelude.{◌≡◌, ℕ, ◌<◌, ◌≤◌, List, length, slice_index}
use Rattle.spec_disk.specs.Disk.{block}
use Rattle.spec_record.specs.declared.geometry.Geometry.{Geometry}
use Rattle.spec_record.specs.Geometry.{meta_blocks, ring_slots, info_at, slot_at, block_at, total_blocks}

-- two images that hold all blocks of this geometry, with the same info block and the same block in
-- each slot of the ring
pub record SameJournal (g : Geometry) (a b : List (List ℕ)) : Type 0 where
  pub first_whole : total_blocks g ≤ length a
  pub second_whole : total_blocks g ≤ length b
  pub info : block a (info_at g) ≡ block b (info_at g)
  pub slots : (s : ℕ) → s < ring_slots g → block a (slot_at g s) ≡ block b (slot_at g s)

-- the same metadata blocks
abbrev pub SameMetadata : Geometry → List (List ℕ) → List (List ℕ) → Type 0
SameMetadata g a b = (t : ℕ) → t < meta_blocks g → block a t ≡ block b t

-- the same bytes in these data blocks
abbrev pub SameBlocks : Geometry → List (List ℕ) → List (List ℕ) → List ℕ → Type 0
SameBlocks g a b ds = (k : ℕ) → k < length ds
    → block a (block_at g (slice_index ds k)) ≡ block b (block_at g (slice_index ds k))
