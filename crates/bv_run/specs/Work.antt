-- What the words of a command ask for, and what the top call does with them.
use Rattle.std.specs.Prelude.{ℕ, List}
use Rattle.bv_serve.specs.Words as plain
use Rattle.bv_run.specs.declared.work.Work.{Work}
use Rattle.bv_run.specs.declared.work.Work.TheVariants.{Plain, Sessions}
use Rattle.bv_run.specs.Words.{IsForm}

-- the words are the written form of this
abbrev pub Writes : List (List ℕ) → Work → Type 0
Writes words (Plain command) = plain.IsForm words command
Writes words (Sessions form) = IsForm words form

-- the words are no written form
abbrev pub WriteNothing : List (List ℕ) → Type 0
WriteNothing words = (work : Work) → ¬ Writes words work
