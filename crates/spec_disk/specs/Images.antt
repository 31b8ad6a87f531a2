-- What a stop of the machine may leave of a disk (this project's profile).
--
-- Each sector by itself holds what it held at the last Ok sync, or what one of the writes since gave
-- it. Failed writes count, and so does the write under way: a stop within a write is a stop after the
-- event of that write.
use Rattle.std.specs.Prelude.{◌≡◌, ℕ, List, [], ◌∷◌, length, map, if◌then◌else◌, ◌==◌, Contains}
use Rattle.spec_disk.specs.declared.event.Event.{Event}
use Rattle.spec_disk.specs.declared.event.Event.TheVariants.{Write, Sync}
use Rattle.spec_disk.specs.Disk.{Blocks, block, sector, unsynced_part, synced_after}

-- what these events write to block b, in order, failed writes included
abbrev pub written_to : ℕ → List Event → List (List ℕ)
written_to b [] = []
written_to b (Write at bytes ok ∷ p) = if at == b then bytes ∷ written_to b p else written_to b p
written_to b (Sync ok ∷ p) = written_to b p

-- what was written to block b since the last Ok sync
abbrev pub pending : List Event → ℕ → List (List ℕ)
pending p b = written_to b (unsynced_part p)

-- sector s of each of these blocks
abbrev pub sectors_at : ℕ → List (List ℕ) → List (List ℕ)
sectors_at s blocks = map (λ bytes. sector bytes s) blocks

-- what a stop may leave in sector s of block b: its synced value, then the values written since, in
-- order
abbrev pub candidates : Blocks → List Event → ℕ → ℕ → List (List ℕ)
candidates base p b s = sectors_at s (block (synced_after base p) b ∷ pending p b)

-- Images: a stop after these events may leave j. Past a block's last sector every sector is empty.
pub record IsImage (base : Blocks) (p : List Event) (j : Blocks) : Type 0 where
  pub as_long : length j ≡ length base
  pub each_sector : (b s : ℕ) → Contains (candidates base p b s) (sector (block j b) s)

-- Settled: no write since the last Ok sync
abbrev pub IsSettled : List Event → Type 0
IsSettled p = (b : ℕ) → pending p b ≡ []
