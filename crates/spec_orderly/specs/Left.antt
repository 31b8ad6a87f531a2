-- What sessions leave of their adds, once their lines ended.
use Rattle.std.specs.Prelude.{◌≡◌, ℕ, ◌<◌, List, [], All}
use Rattle.spec_core.specs.History.{History, Legal, last_state}
use Rattle.spec_script.specs.declared.line.ScriptLine.{ScriptLine}
use Rattle.spec_session.specs.Conform.{Begins}

-- where each event is of one of 16 sessions, and each of these did some first lines, and the next,
-- if there is one, ended for want of memory: no add is under way
abbrev pub NoAddIsLeft : Type 0
NoAddIsLeft =
    (lines : List ScriptLine) (h : History) (next : ℕ) → Legal h next
    → All (λ e. e.who.session < 16) h.events → ((s : ℕ) → s < 16 → Begins lines h s)
    → (last_state h next).adds ≡ []
