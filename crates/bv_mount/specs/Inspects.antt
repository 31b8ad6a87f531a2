-- What opening and inspecting a device answer, as wholes.
use Rattle.std.specs.Prelude.{◌≡◌, List, [], ◌∷◌, Result, Ok, Err, MatchResult}
use Rattle.spec_disk.specs.Disk.{Blocks, block}
use Rattle.spec_image.specs.WellFormed.{records_of}
use Rattle.spec_meta.specs.Blocks.{metadata_at}
use Rattle.spec_meta.specs.Survey.{survey_of}
use Rattle.bv_replay.specs.declared.replay.Replay.{Replay}
use Rattle.bv_replay.specs.Found.{IsReplayOf}
use Rattle.bv_txn.specs.declared.survey.Survey.{Survey}
use Rattle.bv_mount.specs.declared.opening.Opening.{Opening}
use Rattle.bv_mount.specs.declared.inspected.Inspected.{Inspected}
use Rattle.spec_inspect.specs.declared.open_fault.OpenFault.{OpenFault}
use Rattle.spec_inspect.specs.declared.mount_fault.MountFault.{MountFault}
use Rattle.spec_inspect.specs.declared.mount_fault.MountFault.TheVariants as mount
use Rattle.spec_meta.specs.declared.survey_fault.SurveyFault.{SurveyFault}
use Rattle.spec_inspect.specs.Faults.{of_survey}
use Rattle.spec_inspect.specs.Readable.{readable}
use Rattle.spec_inspect.specs.Inspection.{Replayed, Inspection, inspect_of}
use Rattle.bv_mount.specs.Opens.{Refuses, IsRead, IsSpelled}

-- what opening a device answers, of the image that reads give
abbrev pub AnswersOpen : Result Opening OpenFault → Blocks → Type 0
AnswersOpen result j =
    MatchResult result (λ o. IsRead j o.superblock o.meta o.replay) (Refuses (readable j))

-- the replay as a value
abbrev pub replayed_by : Replay → Replayed
replayed_by r = record {
  entries = r.entries.items;
  next_slot = r.next_slot;
  next_number = r.next_number;
  stale = r.stale.items;
}

-- the inspected volume as a value
abbrev pub inspection : Inspected → Inspection
inspection i = record {
  geometry = i.geometry;
  meta = i.meta.blocks;
  replay = replayed_by i.replay;
}

-- the refusal is the one that is due; faults of the device and want of memory may come at any image
abbrev pub RefusesMount : {A : Type 0} → Result A MountFault → MountFault → Type 0
RefusesMount due (mount.Super f) = due ≡ Err (mount.Super f)
RefusesMount due (mount.Replay f) = due ≡ Err (mount.Replay f)
RefusesMount due mount.Moved = due ≡ Err mount.Moved
RefusesMount due (mount.Node node f) = due ≡ Err (mount.Node node f)
RefusesMount due (mount.Overlap at) = due ≡ Err (mount.Overlap at)
RefusesMount due (mount.Twice root) = due ≡ Err (mount.Twice root)
RefusesMount due (mount.Bitmap at says) = due ≡ Err (mount.Bitmap at says)
RefusesMount due (mount.SuperCount field said found) =
    due ≡ Err (mount.SuperCount field said found)
RefusesMount due (mount.DeviceFault count) = Unit {0}
RefusesMount due mount.NoMemory = Unit {0}

-- the inspected volume is the one of the image; block 0 and the info block spell what was read there
pub record IsInspected (j : Blocks) (i : Inspected) : Type 0 where
  pub is : inspect_of j ≡ Ok (inspection i)
  pub head : IsSpelled i.geometry (block j 0)
  pub replay : IsReplayOf i.geometry j i.replay

-- what an inspection answers, of the image that reads give
abbrev pub AnswersInspect : Result Inspected MountFault → Blocks → Type 0
AnswersInspect result j =
    MatchResult result (IsInspected j) (RefusesMount (inspect_of j))

-- the same, where the blobs come along
abbrev pub AnswersInspectAll : Result (Inspected × Survey) MountFault → Blocks → Type 0
AnswersInspectAll result j =
    MatchResult result (λ p. IsInspected j p.0) (RefusesMount (inspect_of j))

-- the survey's blobs are those of the inspected volume
abbrev pub HasBlobs : Inspected → Survey → Type 0
HasBlobs i s = s.blobs.items ≡ records_of (metadata_at i.geometry i.meta.blocks)

-- the inspected volume is the opened one, and nothing is wrong with its metadata
pub record IsInspectedOf (o : Opening) (i : Inspected) : Type 0 where
  pub geometry : i.geometry ≡ o.superblock.geometry
  pub meta : i.meta ≡ o.meta
  pub replay : i.replay ≡ o.replay
  pub well : survey_of (metadata_at o.superblock.geometry o.meta.blocks) ≡ []

-- the fault is the first of a survey
abbrev pub IsFirstOf : List SurveyFault → MountFault → Type 0
IsFirstOf [] f = ⊥
IsFirstOf (s ∷ ss) f = f ≡ of_survey s
