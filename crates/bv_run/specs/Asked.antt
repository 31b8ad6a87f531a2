-- Which script a command runs, and what its source has to do with a refusal.
use Rattle.std.specs.Prelude.{◌≡◌, ℕ, List, Ok, Err}
use Rattle.spec_script.specs.declared.fault.ScriptFault.TheVariants.{At}
use Rattle.spec_script.specs.declared.fault.ScriptKind.{ScriptKind}
use Rattle.spec_script.specs.declared.line.ScriptLine.{ScriptLine}
use Rattle.spec_script.specs.Grammar.{script_of}
use Rattle.spec_script.specs.Workload.{workload_of}
use Rattle.bv_serve.specs.declared.refusal.Refusal.{Refusal}
use Rattle.bv_serve.specs.declared.refusal.Refusal.TheVariants as refusals
use Rattle.bv_serve.specs.Runs.{Change, LeavesAlone, ReadsAll, ReadsTooMuch, ReadFails}
use Rattle.bv_run.specs.declared.form.Form.{Form}
use Rattle.bv_run.specs.declared.form.Form.TheVariants.{Demo}
use Rattle.bv_run.specs.Reports.{Answer, NotBegun, OutOfMemory, Done}

-- the most bytes of a script (this project's profile)
abbrev pub script_limit : ℕ
script_limit = 1048576

-- these are the lines that the grammar reads in all that the source held
abbrev pub IsRead : Change → List ScriptLine → Type 0
IsRead input lines =
    (bytes : List ℕ) × ReadsAll script_limit input bytes × (script_of bytes ≡ Ok lines)

-- the command runs these lines: those that are read, or the demonstration's
abbrev pub IsAsked : Form → Change → List ScriptLine → Type 0
IsAsked (Demo rounds) input lines = LeavesAlone input × (lines ≡ workload_of rounds)
IsAsked _ input lines = IsRead input lines

-- there are lines to run
abbrev pub HasScript : Form → Change → Type 0
HasScript form input = (lines : List ScriptLine) × IsAsked form input lines

-- in all that the source held the grammar finds this fault first
abbrev pub HasFault : Change → ℕ → ScriptKind → Type 0
HasFault input line kind =
    (bytes : List ℕ) × ReadsAll script_limit input bytes × (script_of bytes ≡ Err (At line kind))

-- why no script was read; want of memory may come at any source
abbrev pub IsUnread : Refusal → Change → Type 0
IsUnread refusals.TooLong input = ReadsTooMuch script_limit input
IsUnread (refusals.Script line kind) input = HasFault input line kind
IsUnread refusals.SourceFault input = ReadFails script_limit input
IsUnread refusals.NoMemory input = Unit {0}
IsUnread _ input = ⊥

-- what the source has to do with a refusal
abbrev pub IsUnasked : Form → Refusal → Change → Type 0
IsUnasked (Demo rounds) refusals.NoMemory input = Unit {0}
IsUnasked (Demo rounds) _ input = ⊥
IsUnasked _ refusal input = IsUnread refusal input

-- The source's part in a refusal: a fault of the device or the volume comes once there are lines.
abbrev pub IsRefusedAt : Form → Refusal → Change → Type 0
IsRefusedAt form refusals.DeviceFault input = HasScript form input
IsRefusedAt form (refusals.Volume fault) input = HasScript form input
IsRefusedAt form refusal input = IsUnasked form refusal input

-- the answer is of the lines that the command is to run, or of the cause of the refusal
abbrev pub Answers : Form → Answer → Change → Type 0
Answers form (NotBegun refusal) input = IsRefusedAt form refusal input
Answers form (OutOfMemory run next) input = IsAsked form input run.lines
Answers form (Done run next) input = IsAsked form input run.lines
