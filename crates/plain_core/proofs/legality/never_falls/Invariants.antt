-- The calls of all events never fall exactly if those of the events that are left don't.
use Rattle.std.proofs.Common.{◌↔◌, drop}
use Rattle.spec_core.specs.History.{NeverFall}
use Rattle.plain_core.proofs.legality.never_falls.Given as goal

abbrev pub invariant-loop-event : goal.invariant-loop-event
invariant-loop-event l = NeverFall l.calls (drop l.event-index l.events) ↔ NeverFall 0 l.events
