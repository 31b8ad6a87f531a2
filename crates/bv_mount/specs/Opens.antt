-- What opening a device answers, of the image that reads give.
use Rattle.std.specs.Prelude.{◌≡◌, ◌≤◌, ℕ, List, [], map, if◌then◌else◌, Option, Some, None, option_and_then, Result, Ok, Err, MatchResult}
use Rattle.std.specs.List.{range_with_len}
use Rattle.spec_disk.specs.Disk.{Blocks, block}
use Rattle.spec_record.specs.declared.geometry.Geometry.{Geometry}
use Rattle.spec_record.specs.declared.superblock.Super.{Super}
use Rattle.spec_record.specs.Geometry.{IsGeometry, total_blocks}
use Rattle.spec_record.specs.Superblock.{super_of, IsSuper, super_bytes}
use Rattle.spec_image.specs.Journal.{journal_of}
use Rattle.spec_image.specs.Replay.{replay}
use Rattle.spec_image.specs.After.{after}
use Rattle.spec_image.specs.Volume.{same_geometry}
use Rattle.spec_meta.specs.Blocks.{counts_in, metadata_at}
use Rattle.spec_meta.specs.Survey.{survey_of}
use Rattle.bv_replay.specs.declared.replay.Replay.{Replay}
use Rattle.bv_replay.specs.Found.{FitsGeometry, IsReplayOf}
use Rattle.bv_txn.specs.Metas.{MetaBlocks}
use Rattle.spec_inspect.specs.declared.open_fault.OpenFault.{OpenFault}
use Rattle.spec_inspect.specs.declared.open_fault.OpenFault.TheVariants as opening
use Rattle.spec_inspect.specs.Readable.{super_or_why, info_or_why, readable}

-- the refusal is the one that is due; faults of the device and want of memory may come at any image
abbrev pub Refuses : {A : Type 0} → Result A OpenFault → OpenFault → Type 0
Refuses due (opening.Super f) = due ≡ Err (opening.Super f)
Refuses due (opening.Replay f) = due ≡ Err (opening.Replay f)
Refuses due opening.Moved = due ≡ Err opening.Moved
Refuses due (opening.DeviceFault count) = Unit {0}
Refuses due opening.NoMemory = Unit {0}

-- a fault of the device or want of memory, and nothing that an image says
abbrev pub IsOutside : OpenFault → Type 0
IsOutside (opening.Super f) = ⊥
IsOutside (opening.Replay f) = ⊥
IsOutside opening.Moved = ⊥
IsOutside (opening.DeviceFault count) = Unit {0}
IsOutside opening.NoMemory = Unit {0}

-- the first blocks of an image, so many
abbrev pub first_blocks : ℕ → Blocks → Blocks
first_blocks count j = map (block j) (range_with_len 0 count)

-- a geometry within its limits, whose volume fits a device of so many blocks
pub record IsOn (blocks : ℕ) (g : Geometry) : Type 0 where
  pub limits : IsGeometry g
  pub total : total_blocks g ≤ blocks

-- a block spells a superblock of this geometry: the one whose counts it says
pub record IsSpelled (g : Geometry) (bytes : List ℕ) : Type 0 where
  pub lawful : IsSuper (counts_in g bytes)
  pub bytes_are : bytes ≡ super_bytes (counts_in g bytes)

-- the superblock of an image, which block 0 spells
pub record IsFirst (j : Blocks) (s : Super) : Type 0 where
  pub read : super_or_why j ≡ Ok s
  pub head : IsSpelled s.geometry (block j 0)

-- what reading the superblock of an image answers
abbrev pub AnswersSuper : Result Super OpenFault → Blocks → Type 0
AnswersSuper result j =
    MatchResult result (IsFirst j) (Refuses (super_or_why j))

-- what reading the journal of an image of this geometry answers
abbrev pub AnswersJournal : Geometry → Result Replay OpenFault → Blocks → Type 0
AnswersJournal g result j = MatchResult result (IsReplayOf g j) (Refuses (info_or_why g j))

-- what reading the metadata of an image answers, where the replay is that of its journal
abbrev pub AnswersMeta : Geometry → Replay → Result MetaBlocks OpenFault → Blocks → Type 0
AnswersMeta g r result j =
    MatchResult result
    (λ m. r.entries.items ≡ replay (journal_of g j) → m.blocks ≡ after g j) IsOutside

-- the superblock that a block spells, where it's a valid one of this geometry
abbrev pub kept_super : Geometry → List ℕ → ℕ → Option Super
kept_super g bytes device_blocks =
    option_and_then (λ s. if same_geometry s.geometry g then Some s else None)
    (super_of bytes device_blocks)

-- what is known of opened metadata, whichever device it came from
pub record IsLawful (s : Super) (m : MetaBlocks) (r : Replay) : Type 0 where
  pub limits : IsGeometry s.geometry
  pub geometry : m.geometry ≡ s.geometry
  pub counts : counts_in s.geometry (block m.blocks 0) ≡ s
  pub left : IsSpelled s.geometry (block m.blocks 0)
  pub within : FitsGeometry s.geometry r

-- these are the superblock, the metadata and the journal of an image, after the replay
pub record IsRead (j : Blocks) (s : Super) (m : MetaBlocks) (r : Replay) : Type 0 where
  pub head : IsSpelled s.geometry (block j 0)
  pub replay : IsReplayOf s.geometry j r
  pub readable_is : readable j ≡ Ok (record { info = replay.info; super = s })
  pub meta : m.blocks ≡ after s.geometry j

-- what is known of an inspected volume, whichever device it came from
pub record IsWell (g : Geometry) (m : MetaBlocks) (r : Replay) : Type 0 where
  pub limits : IsGeometry g
  pub geometry : m.geometry ≡ g
  pub well : survey_of (metadata_at g m.blocks) ≡ []
  pub left : IsSpelled g (block m.blocks 0)
  pub within : FitsGeometry g r
