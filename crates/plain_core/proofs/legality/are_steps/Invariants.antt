-- All events are Steps exactly if those that are left are, from the core as it stands.
use Rattle.std.proofs.Common.{◌≡◌, ◌≤◌, ◌^◌, ◌↔◌, drop}
use Rattle.spec_core.specs.Step.{Steps}
use Rattle.plain_core.proofs.legality.are_steps.Given as goal

abbrev pub invariant-loop-event : goal.invariant-loop-event
invariant-loop-event l = record {
  next : l.core.state.next ≤ 2 ^ 62;
  setting : l.core.setting ≡ l.fn.core.setting;
  steps : Steps l.core.setting l.core.state (drop l.event-index l.events)
      ↔ Steps l.fn.core.setting l.fn.core.state l.events;
}
