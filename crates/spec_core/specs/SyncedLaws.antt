-- Laws of what is synced and what is logged: as in `Laws`, each statement is the contract of a
-- function of `laws`.
use Rattle.std.specs.Prelude.{◌≡◌, ℕ, ◌<◌, ◌≤◌, ◌⊎◌, All}
use Rattle.spec_core.specs.History.{History, last_state, Legal, FromEachToNext}
use Rattle.spec_core.specs.Synced.{log_lengths, synced_by, logged_by, SyncsInCalls}

-- once the calls of all events are made, what is synced is what is durable
abbrev pub SyncedIsDurable : Type 0
SyncedIsDurable =
    (h : History) (next calls : ℕ) → Legal h next → All (λ e. e.calls ≤ calls) h.events
    → synced_by h calls ≡ (last_state h next).durable

-- each event in which the log grows has more calls than the event before it
abbrev pub LogsInCalls : History → Type 0
LogsInCalls h =
    FromEachToNext (λ old new. old.1 < new.1 → old.0.calls < new.0.calls) (log_lengths h)

-- what is durable after so many calls was logged by then, where each sync makes a call of its own,
-- or each event that logs does
abbrev pub SyncedIsLogged : Type 0
SyncedIsLogged =
    (h : History) (next calls : ℕ) → Legal h next → SyncsInCalls h ⊎ LogsInCalls h
    → synced_by h calls ≤ logged_by h calls
