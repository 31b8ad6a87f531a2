-- What a command that runs sessions prints, and its status (this project's profile).
use Rattle.std.specs.Prelude.{◌≡◌, ◌⊎◌, ℕ, Bool, true, false, List}
use Rattle.std.specs.List.{list_any}
use Rattle.spec_core.specs.declared.reply.Reply.{Reply}
use Rattle.spec_core.specs.declared.reply.Reply.TheVariants as replies
use Rattle.spec_session.specs.declared.end.SessionEnd.{SessionEnd}
use Rattle.spec_session.specs.declared.result.LineResult.{LineResult}
use Rattle.spec_session.specs.declared.result.LineResult.TheVariants as results
use Rattle.spec_session.specs.Demo.{summary_text}
use Rattle.spec_session.specs.Text.{text_of}
use Rattle.spec_headline.specs.Run.{Run, MetFault, MetMismatch}
use Rattle.bv_serve.specs.declared.refusal.Refusal.{Refusal}
use Rattle.bv_serve.specs.declared.refusal.Refusal.TheVariants.{NoMemory}
use Rattle.bv_serve.specs.declared.status.Status.{Status}
use Rattle.bv_serve.specs.declared.status.Status.TheVariants as status
use Rattle.bv_serve.specs.Lines.{refusal_line, refusal_status}
use Rattle.bv_serve.specs.Runs.{Change, Prints, PrintsAll, PrintsPart}
use Rattle.bv_run.specs.declared.form.Form.{Form}
use Rattle.bv_run.specs.declared.form.Form.TheVariants.{Demo}

-- How a run came out. The number is that of the volume's next entry as the sessions began.
pub data Answer : Type 0 where
  -- it was refused before its first event
  NotBegun : Refusal → Answer
  -- it ended for want of memory
  OutOfMemory : Run → ℕ → Answer
  -- all sessions did all their lines, and the volume was unmounted
  Done : Run → ℕ → Answer

-- the text of a run, or of the demonstration its summary
abbrev pub printed : Form → Run → List ℕ
printed (Demo rounds) run = summary_text rounds run.lines run.history
printed _ run = text_of run.lines run.history run.results

-- ---- the tests behind a status

-- whether a reply says that the device failed
abbrev pub is_fault : Reply → Bool
is_fault (replies.DeviceFault fault) = true
is_fault (replies.ReadFault fault) = true
is_fault _ = false

-- whether a result is a mismatch
abbrev pub is_mismatch : LineResult → Bool
is_mismatch (results.Mismatch mismatch) = true
is_mismatch _ = false

-- whether a line of a session answered one
abbrev pub has_mismatch : SessionEnd → Bool
has_mismatch end = list_any is_mismatch end.results.items

-- ---- the status

-- the status of a run whose text was printed whole: a fault goes before a mismatch
abbrev pub EndsAs : Run → Status → Type 0
EndsAs run status.Device = MetFault run.history
EndsAs run status.Damage = ¬ MetFault run.history × MetMismatch run
EndsAs run status.Ok = ¬ MetFault run.history × ¬ MetMismatch run
EndsAs run _ = ⊥

-- the line of a refusal went out, at its status
abbrev pub ReportsRefusal : Refusal → Status → Change → Type 0
ReportsRefusal refusal ended out =
    (ended ≡ refusal_status refusal) × Prints out (refusal_line refusal)

-- the text went out, or a part of it, and then the sink failed
abbrev pub ReportsRun : List ℕ → Run → Status → Change → Type 0
ReportsRun text run ended out =
    ((ended ≡ status.Sink) × PrintsPart out text) ⊎ (PrintsAll out text × EndsAs run ended)

-- what went to the sink, and the status
abbrev pub Reports : Form → Answer → Status → Change → Type 0
Reports form (NotBegun refusal) ended out = ReportsRefusal refusal ended out
Reports form (OutOfMemory run next) ended out = ReportsRefusal NoMemory ended out
Reports form (Done run next) ended out = ReportsRun (printed form run) run ended out
