-- What a stop of the machine leaves of a device that is being formatted (this project's profile).
--
-- `base` and `before` are the disk and its events when the call began, `events` are the events of
-- the call so far.
use Rattle.std.specs.Prelude.{◌≡◌, ◌≤◌, ◌⊎◌, ℕ, List, [], ◌++◌, length, take, replicate, false, Some, Err, IsSomeAnd}
use Rattle.spec_disk.specs.declared.event.Event.{Event}
use Rattle.spec_disk.specs.Disk.{Blocks, block, sector, now_after, has_sync}
use Rattle.spec_disk.specs.Images.{IsImage, IsSettled}
use Rattle.spec_record.specs.declared.geometry.Geometry.{Geometry}
use Rattle.spec_record.specs.declared.super_fault.SuperFault.TheVariants.{Magic}
use Rattle.spec_record.specs.Superblock.{super_or_fault}
use Rattle.spec_image.specs.Volume.{blobs, metadata_of}

-- the first sector of block 0, which has all fields of the superblock
abbrev pub head : Blocks → List ℕ
head disk = sector (block disk 0) 0

-- the head is the old one, which can be only before the first Ok sync
pub record HasOldHead (base : Blocks) (before events : List Event) (j : Blocks) : Type 0 where
  pub old : head j ≡ head (now_after base before)
  pub unsynced : has_sync events ≡ false

-- the head is zeros, and a reader refuses it by its magic
pub record HasNoHead (j : Blocks) : Type 0 where
  pub zeros : head j ≡ replicate 512 0
  pub refused : super_or_fault (block j 0) (length j) ≡ Err Magic

-- a volume of this geometry without a blob
pub record IsEmptyVolume (geometry : Geometry) (j : Blocks) : Type 0 where
  pub made : IsSomeAnd (metadata_of j) (λ m. m.super.geometry ≡ geometry)
  pub empty : blobs j ≡ Some []

-- FormatStop: on a device that was settled when the call began, each image of each prefix of the
-- call's events has the old head, or none, or is the new empty volume
abbrev pub FormatStop : Blocks → List Event → List Event → Geometry → Type 0
FormatStop base before events geometry =
    IsSettled before → (n : ℕ) (j : Blocks) → n ≤ length events
    → IsImage base (before ++ take n events) j
    → HasOldHead base before (take n events) j ⊎ (HasNoHead j ⊎ IsEmptyVolume geometry j)
