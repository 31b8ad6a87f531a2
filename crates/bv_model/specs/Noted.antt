-- A history in memory, as contracts see it.
use Rattle.std.specs.Prelude.{ℕ, ◌-◌}
use Rattle.spec_core.specs.History.{History, with_event}
use Rattle.spec_core.specs.declared.event.CoreEvent.{CoreEvent}

-- the history, which the rules speak of, and for how many events more there is room, which no rule
-- looks at
pub record Noted : Type 0 where
  pub history : History
  pub spare : ℕ

-- with one event more, and room for one less
abbrev pub with_noted : Noted → CoreEvent → Noted
with_noted n e = record { history = with_event n.history e; spare = n.spare - 1 }
