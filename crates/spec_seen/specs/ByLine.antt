-- Lines that add one blob at most (this project's profile).
use Rattle.std.specs.Prelude.{◌≡◌, ℕ, ◌≤◌, ◌⊎◌, List, [], All}
use Rattle.spec_script.specs.Lawful.{AreLawful}
use Rattle.spec_script.specs.declared.line.ScriptLine.{ScriptLine}
use Rattle.spec_core.specs.History.{History}
use Rattle.spec_core.specs.declared.act.Act.TheVariants.{Unmount}
use Rattle.spec_core.specs.declared.event.CoreEvent.{CoreEvent}
use Rattle.spec_session.specs.Conform.{Begins}
use Rattle.spec_served.specs.Adds.{AreByLine}

-- each event is of one of the sessions 0 to 15, or it is an unmount
abbrev pub AreOfSessions : List CoreEvent → Type 0
AreOfSessions events = All (λ e. (e.who.session ≤ 15) ⊎ (e.act ≡ Unmount)) events

-- Where each session of a lawful script did some first lines, and the next, if there is one, ended
-- for want of memory: each put comes before its line has published, and what is published is what
-- the line has put
abbrev pub LinesAddOnce : Type 0
LinesAddOnce =
    (lines : List ScriptLine) (h : History) → AreLawful lines
    → ((s : ℕ) → s ≤ 15 → Begins lines h s) → AreOfSessions h.events
    → AreByLine [] h.events
