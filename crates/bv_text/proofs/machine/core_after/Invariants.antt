-- The events that are left lead from the state so far to the last.
use Rattle.std.proofs.Common.{◌≡◌, ◌≤◌, drop}
use Rattle.spec_core.specs.History.{last_state}
use Rattle.spec_core.specs.Step.{state_after}
use Rattle.bv_text.proofs.machine.core_after.Given as goal

abbrev pub invariant-loop-event : goal.invariant-loop-event
invariant-loop-event l = record {
  next : l.core.state.next ≤ l.event-index;
  state : state_after l.core.setting l.core.state (drop l.event-index l.history.history.events) ≡ last_state l.history.history 0;
}
