-- How the sessions of a script ended, as their history says (this project's profile).
use Rattle.std.specs.Prelude.{◌≡◌, ℕ, ◌<◌, false, List, Some, slice_get}
use Rattle.spec_core.specs.History.{History}
use Rattle.spec_script.specs.declared.line.ScriptLine.{ScriptLine}
use Rattle.spec_session.specs.Conform.{Conform, Begins}
use Rattle.spec_session.specs.declared.end.SessionEnd.{SessionEnd}
use Rattle.spec_served.specs.Served.{Served, ServedSome}

-- Session s ended so: it did some first lines, and the next, if there is one, ended for want of
-- memory; and where it had memory, it did all its lines. Each line that was done has its result.
pub record EndsAs (lines : List ScriptLine) (h : History) (s : ℕ) (end : SessionEnd) : Type 0 where
  pub begins : Begins lines h s
  pub some : ServedSome lines h s end.results.items
  pub conform : end.memory ≡ false → Conform lines h s
  pub served : end.memory ≡ false → Served lines h s end.results.items

-- each of the 16 sessions has its end, at the place of its number
abbrev pub AllEnd : List ScriptLine → History → List SessionEnd → Type 0
AllEnd lines h ends =
    (s : ℕ) → s < 16
    → (end : SessionEnd) × (slice_get ends s ≡ Some end) × EndsAs lines h s end
