-- The faults of all events are caused exactly if those of the events that are left are.
use Rattle.std.proofs.Common.{◌↔◌, drop}
use Rattle.spec_core.specs.Synced.{Caused, RiseWithin, faults_of}
use Rattle.plain_core.proofs.caused.is_caused.Given as goal

abbrev pub invariant-loop-event : goal.invariant-loop-event
invariant-loop-event l =
    RiseWithin l.before l.last (faults_of (drop l.event-index l.fn.h.history.events))
    ↔ Caused l.fn.h.history l.first l.last
