-- What a command that runs sessions does: its clause, of which the headline is a part (this project's
-- profile).
use Rattle.std.specs.Prelude.{◌≡◌, ℕ, Option, Some, IfSome, IsSomeAnd}
use Rattle.spec_record.specs.declared.geometry.Geometry.{Geometry}
use Rattle.spec_headline.specs.Run.{Ended, CutShort}
use Rattle.bv_device.specs.Seen.{Seen}
use Rattle.bv_device.specs.Told.{Disk}
use Rattle.bv_serve.specs.declared.status.Status.{Status}
use Rattle.bv_serve.specs.Runs.{Change}
use Rattle.bv_run.specs.declared.form.Form.{Form}
use Rattle.bv_run.specs.Asked.{Answers}
use Rattle.bv_run.specs.Begun.{BeginsBy}
use Rattle.bv_run.specs.Complete.{Completes}
use Rattle.bv_run.specs.Reports.{Answer, NotBegun, OutOfMemory, Done, Reports}
use Rattle.bv_run.specs.Told.{IsTold, Premises}
use Rattle.bv_run.specs.Words.{made_by}

-- What the history is, on any device, whose counts of faults before and after are these.
abbrev pub Holds : Answer → ℕ → ℕ → Type 0
Holds (NotBegun refusal) first last = Unit {0}
Holds (OutOfMemory run next) first last = CutShort run next first last
Holds (Done run next) first last = Ended run next first last

-- behind a run that was done a device that told still tells
abbrev pub StillTells : Answer → Option Disk → Option Disk → Type 0
StillTells (NotBegun refusal) old new = Unit {0}
StillTells (OutOfMemory run next) old new = Unit {0}
StillTells (Done run next) old new = IfSome old (λ d. IsSomeAnd new (λ e. Unit {0}))

-- What became of the device, `old` and `new`, by an answer, where a volume of such counts is made first,
-- or the one that is there is taken.
pub record Went (made : Option Geometry) (answer : Answer) (old new : Seen) : Type 0 where
  -- what the sessions began with, or why they didn't
  pub begins : BeginsBy made answer old new
  -- the history is legal, with each session's commands in order, and each line has its result
  pub holds : Holds answer old.fault_count new.fault_count
  -- a device that told still does
  pub tells : StillTells answer old.told new.told
  -- wherever the machine stops, and once all is done
  pub told : (d e : Disk) → old.told ≡ Some d → new.told ≡ Some e → Premises made d
      → IsTold made answer d e

-- The run of a command that runs sessions: its status, and what became of the device and of the
-- streams.
pub record RunsScript (form : Form) (ended : Status) (old new : Seen) (input out : Change) : Type 0
  where
    pub answer : Answer
    -- the script that ran, or why none did
    pub asked : Answers form answer input
    -- what was printed, and the status
    pub reports : Reports form answer ended out
    -- the device and the history
    pub went : Went (made_by form) answer old new
    -- where nothing fails and there is enough, it ends well
    pub complete : Completes form answer ended old new input out
