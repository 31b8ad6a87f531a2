-- What a call of the sessions gives.
use Rattle.std.specs.Prelude.{◌≡◌, ℕ, List, Option, Result, Ok, Err, length}
use Rattle.spec_record.specs.declared.geometry.Geometry.{Geometry}
use Rattle.spec_script.specs.declared.line.ScriptLine.{ScriptLine}
use Rattle.spec_headline.specs.Run.{run_of}
use Rattle.bv_device.specs.Seen.{Seen}
use Rattle.bv_serve.specs.declared.refusal.Refusal.{Refusal}
use Rattle.bv_serve.specs.declared.refusal.Refusal.TheVariants as refusals
use Rattle.bv_run.specs.declared.finished.Finished.{Finished}
use Rattle.bv_run.specs.Reports.{Answer, NotBegun, OutOfMemory, Done}
use Rattle.bv_run.specs.Runs.{Went}

-- the refusal is of the device, of the volume, or for want of memory
abbrev pub IsOfDevice : Refusal → Type 0
IsOfDevice refusals.DeviceFault = Unit {0}
IsOfDevice (refusals.Volume why) = Unit {0}
IsOfDevice refusals.NoMemory = Unit {0}
IsOfDevice _ = ⊥

-- the refusal is that of this answer, of a run of these lines
abbrev pub IsRefusalOf : List ScriptLine → Refusal → Answer → Type 0
IsRefusalOf lines refusal (NotBegun r) = (r ≡ refusal) × IsOfDevice r
IsRefusalOf lines refusal (OutOfMemory run next) =
    (refusal ≡ refusals.NoMemory) × (run.lines ≡ lines)
IsRefusalOf lines refusal (Done run next) = ⊥

-- all sessions of these lines ended, each at the place of its number; or why they didn't
abbrev pub Came : List ScriptLine → Option Geometry → Result Finished Refusal → Seen → Seen → Type 0
Came lines made (Ok f) old new =
    (length f.ends.items ≡ 16)
    × ((next : ℕ) × Went made (Done (run_of lines f.history.history f.ends.items) next) old new)
Came lines made (Err refusal) old new =
    (answer : Answer) × IsRefusalOf lines refusal answer × Went made answer old new
