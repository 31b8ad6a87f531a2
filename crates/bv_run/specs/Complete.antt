-- When a command that runs sessions ends well: nothing fails, its input is a script, its volume is
-- there or can be made, and there is enough of all (this project's profile).
use Rattle.std.specs.Prelude.{◌≡◌, ◌≤◌, ℕ, List, length, Option, None, Some, Ok, IsOk, IsSomeAnd}
use Rattle.spec_faults.specs.Faults.{Rose}
use Rattle.spec_disk.specs.Images.{IsSettled}
use Rattle.spec_record.specs.declared.geometry.Geometry.{Geometry}
use Rattle.spec_record.specs.Geometry.{total_blocks}
use Rattle.spec_script.specs.Grammar.{script_of}
use Rattle.spec_headline.specs.Complete.{HasEnough, WentWell}
use Rattle.spec_headline.specs.Run.{HasSoundBlobs}
use Rattle.bv_device.specs.Seen.{Seen}
use Rattle.bv_device.specs.Told.{Disk, now_of}
use Rattle.bv_layout.specs.Counts.{counts_or_fault}
use Rattle.bv_serve.specs.declared.status.Status.{Status}
use Rattle.bv_serve.specs.declared.status.Status.TheVariants as status
use Rattle.bv_serve.specs.Runs.{Change}
use Rattle.bv_run.specs.declared.form.Form.{Form}
use Rattle.bv_run.specs.declared.form.Form.TheVariants.{Demo}
use Rattle.bv_run.specs.Asked.{script_limit}
use Rattle.bv_run.specs.Reports.{Answer, NotBegun, OutOfMemory, Done}
use Rattle.bv_run.specs.Words.{made_by}

-- these bytes are a script within the limit
pub record IsText (bytes : List ℕ) : Type 0 where
  pub within : length bytes ≤ script_limit
  pub read : IsOk (script_of bytes)

-- there are lines to run: the source tells its bytes, which are a script; the demonstration has its
-- own
abbrev pub IsGiven : Form → Change → Type 0
IsGiven (Demo rounds) input = Unit {0}
IsGiven _ input = IsSomeAnd input.old IsText

-- The disk is ready: it is settled, and the volume there is well formed, with each of its blobs sound;
-- or a volume of these counts can be made on so many blocks.
abbrev pub IsReadyDisk : Option Geometry → ℕ → Disk → Type 0
IsReadyDisk None blocks d = IsSettled d.trace × HasSoundBlobs (now_of d)
IsReadyDisk (Some g) blocks d = (counts_or_fault g ≡ Ok tt) × (total_blocks g ≤ blocks)

-- the device tells, and its disk is ready
abbrev pub IsReady : Option Geometry → Seen → Type 0
IsReady made old = IsSomeAnd old.told (IsReadyDisk made old.block_count)

-- where the sessions began, there is enough for all lines
abbrev pub IsEnough : Answer → Type 0
IsEnough (NotBegun refusal) = Unit {0}
IsEnough (OutOfMemory run next) = Unit {0}
IsEnough (Done run next) = HasEnough run.lines run.history next

-- no call of the device, the source or the sink failed
pub record NothingFailed (old new : Seen) (input out : Change) : Type 0 where
  pub device : ¬ Rose old.fault_count new.fault_count
  pub source : ¬ Rose input.faults_before input.faults_after
  pub sink : ¬ Rose out.faults_before out.faults_after

-- The status where all is well: only memory may be wanting. A whole run went well.
abbrev pub EndsWell : Answer → Status → Type 0
EndsWell (NotBegun refusal) ended = ended ≡ status.Memory
EndsWell (OutOfMemory run next) ended = ended ≡ status.Memory
EndsWell (Done run next) ended = (ended ≡ status.Ok) × WentWell run

-- nothing is wrong with the call, and nothing failed
pub record CanComplete (form : Form) (answer : Answer) (old new : Seen) (input out : Change) : Type 0
  where
    pub given : IsGiven form input
    pub ready : IsReady (made_by form) old
    pub enough : IsEnough answer
    pub calm : NothingFailed old new input out

-- so it ends well
abbrev pub Completes : Form → Answer → Status → Seen → Seen → Change → Change → Type 0
Completes form answer ended old new input out =
    CanComplete form answer old new input out → EndsWell answer ended
