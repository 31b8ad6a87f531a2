-- What the commands print that recover a volume: a word, and how many entries were replayed.
use Rattle.std.specs.Prelude.{◌≡◌, ℕ, List, Result, Ok, Err}
use Rattle.spec_inspect.specs.declared.mount_fault.MountFault.{MountFault}
use Rattle.bv_serve.specs.declared.status.Status.{Status}
use Rattle.bv_serve.specs.Lines.{number_line, mount_refusal, refusal_line, refusal_status}
use Rattle.bv_serve.specs.Runs.{Change, Prints, PrintsAt}

-- what is printed, and at which status: the word and the number, or exactly the line of the refusal
abbrev pub ReportsReplayed : List ℕ → Result ℕ MountFault → Status → Change → Type 0
ReportsReplayed word (Ok count) ended out = PrintsAt ended out (number_line word count)
ReportsReplayed word (Err fault) ended out =
    (ended ≡ refusal_status (mount_refusal fault)) × Prints out (refusal_line (mount_refusal fault))
