-- The disk: what the events of a device make of its blocks, and how far its syncs reach (this
-- project's profile).
--
-- A disk is its list of blocks, and a block its list of bytes: 8,192 of them, which are 16 sectors of
-- 512. `base` is the disk before any event, and `p` a list of events in their order. A place past the
-- end of a disk holds the empty block, and a write there changes nothing.
use Rattle.std.specs.Prelude.{ℕ, ◌*◌, List, [], ◌∷◌, length, take, drop, Bool, true, false, if◌then◌else◌, ◌==◌, slice_index_or, slice_set}
use Rattle.spec_disk.specs.declared.event.Event.{Event}
use Rattle.spec_disk.specs.declared.event.Event.TheVariants.{Write, Sync}

-- a disk
abbrev pub Blocks : Type 0
Blocks = List (List ℕ)

-- block b of a disk
abbrev pub block : Blocks → ℕ → List ℕ
block disk b = slice_index_or disk b []

-- sector s of a block
abbrev pub sector : List ℕ → ℕ → List ℕ
sector bytes s = take 512 (drop (512 * s) bytes)

-- Now: the disk with every Ok write applied, in order
abbrev pub now_after : Blocks → List Event → Blocks
now_after base [] = base
now_after base (Write at bytes true ∷ p) = now_after (slice_set base at bytes) p
now_after base (Write at bytes false ∷ p) = now_after base p
now_after base (Sync ok ∷ p) = now_after base p

-- Last: the disk with every write applied, in order, failed ones too
abbrev pub last_after : Blocks → List Event → Blocks
last_after base [] = base
last_after base (Write at bytes ok ∷ p) = last_after (slice_set base at bytes) p
last_after base (Sync ok ∷ p) = last_after base p

-- whether an Ok sync stands among these events
abbrev pub has_sync : List Event → Bool
has_sync [] = false
has_sync (Write at bytes ok ∷ p) = has_sync p
has_sync (Sync true ∷ p) = true
has_sync (Sync false ∷ p) = has_sync p

-- the longest prefix that ends with an Ok sync, or the empty list
abbrev pub synced_part : List Event → List Event
synced_part [] = []
synced_part (e ∷ p) = if has_sync (e ∷ p) then e ∷ synced_part p else []

-- the events after that prefix
abbrev pub unsynced_part : List Event → List Event
unsynced_part p = drop (length (synced_part p)) p

-- Synced: what the disk was at the last Ok sync; before the first, the base
abbrev pub synced_after : Blocks → List Event → Blocks
synced_after base p = now_after base (synced_part p)

-- whether block b reads right after these events, where `right` says whether it did before: a write to
-- it decides by its outcome, and an Ok sync makes it right
abbrev pub reads_right_from : Bool → ℕ → List Event → Bool
reads_right_from right b [] = right
reads_right_from right b (Write at bytes ok ∷ p) =
    reads_right_from (if at == b then ok else right) b p
reads_right_from right b (Sync true ∷ p) = reads_right_from true b p
reads_right_from right b (Sync false ∷ p) = reads_right_from right b p

-- whether a read of block b gives what Now has: not where its last write failed with no Ok sync after
abbrev pub reads_right : List Event → ℕ → Bool
reads_right p b = reads_right_from true b p
