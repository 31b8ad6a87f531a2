-- The events that are left make of the blocks so far what all of them make of the base.
use Rattle.std.proofs.Common.{◌≡◌, drop}
use Rattle.spec_disk.specs.Disk.{last_after}
use Rattle.spec_disk.proofs.now.last_of.Given as goal

abbrev pub invariant-loop-event : goal.invariant-loop-event
invariant-loop-event l = last_after l.disk.items (drop l.event-index l.events) ≡ last_after l.base l.events
