-- What the top call does with its words, its device, its source and its sink.
use Rattle.std.specs.Prelude.{◌≡◌, ◌↔◌, ◌⊎◌, ℕ, ◌≤◌, List, length, Ok, IsSome, IsSomeAnd}
use Rattle.spec_faults.specs.Faults.{Rose}
use Rattle.spec_record.specs.Geometry.{total_blocks}
use Rattle.spec_image.specs.Volume.{blobs}
use Rattle.bv_layout.specs.Counts.{counts_or_fault}
use Rattle.bv_device.specs.Told.{now_of}
use Rattle.bv_device.specs.Reads.{ReadsRight}
use Rattle.bv_device.specs.Seen.{Seen}
use Rattle.spec_tree.specs.declared.Digest.{Digest}
use Rattle.spec_tree.specs.declared.blob.Blob.{Blob}
use Rattle.spec_crash.specs.Crash.{HoldsWhole}
use Rattle.bv_serve.specs.declared.command.Command.{Command}
use Rattle.bv_serve.specs.declared.command.Command.TheVariants.{Root, ListBlobs, Check, Recover, Upgrade, Format}
use Rattle.bv_serve.specs.declared.refusal.Refusal.TheVariants.{Usage}
use Rattle.bv_serve.specs.declared.status.Status.{Status}
use Rattle.bv_serve.specs.declared.status.Status.TheVariants as status
use Rattle.bv_serve.specs.Format.{RunsFormat}
use Rattle.bv_serve.specs.List.{RunsList}
use Rattle.bv_serve.specs.Check.{RunsCheck}
use Rattle.bv_serve.specs.Recover.{RunsRecover}
use Rattle.bv_serve.specs.Upgrade.{RunsUpgrade}
use Rattle.bv_serve.specs.Lines.{refusal_line}
use Rattle.bv_serve.specs.Root.{root_limit, RunsRoot}
use Rattle.bv_serve.specs.Runs.{Change, LeavesAlone, Prints}
use Rattle.bv_serve.specs.Words.{IsForm, IsNoForm}

-- what a command did
abbrev pub Runs : Command → Status → Seen → Seen → Change → Change → Type 0
Runs Root ended old new input out = RunsRoot ended input out
Runs ListBlobs ended old new input out = RunsList ended old new input out
Runs Check ended old new input out = RunsCheck ended old new input out
Runs Recover ended old new input out = RunsRecover ended old new input out
Runs Upgrade ended old new input out = RunsUpgrade ended old new input out
Runs (Format g) ended old new input out = RunsFormat g ended old new input out

-- the input that the source held is within the limit
abbrev pub IsShort : Change → Type 0
IsShort input = IsSomeAnd input.old (λ bytes. length bytes ≤ root_limit)

-- the device tells, and reads give an image with a map of blobs
abbrev pub HoldsVolume : Seen → Type 0
HoldsVolume s = IsSomeAnd s.told (λ d. ReadsRight d × IsSome (blobs (now_of d)))

-- the device tells, and reads give an image with a map of blobs, each of them whole
abbrev pub HoldsBlobs : Seen → Type 0
HoldsBlobs s =
    IsSomeAnd s.told (λ d. ReadsRight d
    × ((held : List (Digest × Blob)) × HoldsWhole (now_of d) held))

-- what a command needs so that it ends well, where no call fails
abbrev pub CanEndWell : Command → Seen → Change → Type 0
CanEndWell Root old input = IsShort input
CanEndWell ListBlobs old input = HoldsVolume old
CanEndWell Check old input = HoldsBlobs old
CanEndWell Recover old input = HoldsVolume old
CanEndWell Upgrade old input = HoldsVolume old
CanEndWell (Format g) old input =
    (counts_or_fault g ≡ Ok tt) × (total_blocks g ≤ old.block_count)

-- the status is Ok; a command that takes memory may find none
abbrev pub EndsWell : Command → Status → Type 0
EndsWell Root ended = ended ≡ status.Ok
EndsWell ListBlobs ended = (ended ≡ status.Ok) ⊎ (ended ≡ status.Memory)
EndsWell Check ended = (ended ≡ status.Ok) ⊎ (ended ≡ status.Memory)
EndsWell Recover ended = (ended ≡ status.Ok) ⊎ (ended ≡ status.Memory)
EndsWell Upgrade ended = (ended ≡ status.Ok) ⊎ (ended ≡ status.Memory)
EndsWell (Format g) ended = ended ≡ status.Ok

-- A run of the top call: its words, its status, and what became of the device, `old` and `new`, and
-- of the streams.
pub record Serves (words : List (List ℕ)) (ended : Status) (old new : Seen) (input out : Change)
    : Type 0 where
  -- words that are no written form, and no others, are refused as such
  pub usage : (ended ≡ status.Usage) ↔ IsNoForm words
  -- then nothing is read, and the usage line is written
  pub refused : IsNoForm words → LeavesAlone input × Prints out (refusal_line Usage)
  -- each command does what is said of it
  pub runs : (c : Command) → IsForm words c → Runs c ended old new input out
  -- where it has what it needs and no call fails, it ends well, or there is no memory
  pub complete : (c : Command) → IsForm words c → CanEndWell c old input
      → ¬ Rose input.faults_before input.faults_after
      → ¬ Rose old.fault_count new.fault_count → ¬ Rose out.faults_before out.faults_after
      → EndsWell c ended

-- the command touches no device, or is refused before it does
abbrev pub SparesDevice : Command → Status → Type 0
SparesDevice Root ended = Unit {0}
SparesDevice ListBlobs ended = ⊥
SparesDevice Check ended = ⊥
SparesDevice Recover ended = ⊥
SparesDevice Upgrade ended = ⊥
SparesDevice (Format g) ended = ended ≡ status.Volume

-- the run leaves its device exactly as it was
abbrev pub LeavesDevice : List (List ℕ) → Status → Type 0
LeavesDevice words ended = (c : Command) → IsForm words c → SparesDevice c ended
