-- What the history of sessions that did their lines in order tells of a script.
use Rattle.std.specs.Prelude.{ℕ, ◌≤◌, List}
use Rattle.spec_core.specs.History.{History}
use Rattle.spec_script.specs.Lawful.{AreLawful}
use Rattle.spec_script.specs.declared.line.ScriptLine.{ScriptLine}
use Rattle.spec_session.specs.Conform.{Conform}
use Rattle.spec_session.specs.Text.{TellsRoots}

-- where each session did its lines, the history names the root of each line that has one
abbrev pub ConformingTellRoots : Type 0
ConformingTellRoots =
    (lines : List ScriptLine) (h : History) → AreLawful lines
    → ((s : ℕ) → s ≤ 15 → Conform lines h s) → TellsRoots lines h
