-- What the events so far logged, and what those that are left log from there, make up the log.
use Rattle.std.proofs.Common.{◌≡◌, ◌≤◌, ◌++◌, map, drop}
use Rattle.spec_core.specs.History.{last_state}
use Rattle.spec_core.specs.Step.{state_after}
use Rattle.spec_core.specs.Synced.{lengths_from, log_lengths}
use Rattle.plain_core.proofs.logged.logged_of.Given as goal

abbrev pub invariant-loop-event : goal.invariant-loop-event
invariant-loop-event l = record {
  next : l.core.state.next ≤ l.event-index;
  state : state_after l.core.setting l.core.state (drop l.event-index l.fn.h.history.events) ≡ last_state l.fn.h.history 0;
  lengths : l.lengths.items ++ map (λ e. e.1) (lengths_from l.core.setting l.core.state (drop l.event-index l.fn.h.history.events))
      ≡ map (λ e. e.1) (log_lengths l.fn.h.history);
}
