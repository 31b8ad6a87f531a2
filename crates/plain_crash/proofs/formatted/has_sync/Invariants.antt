-- A sync among all events is one among those that are left.
use Rattle.std.proofs.Common.{◌≡◌, drop}
use Rattle.spec_disk.specs.Disk.{has_sync}
use Rattle.plain_crash.proofs.formatted.has_sync.Given as goal

abbrev pub invariant-loop-event : goal.invariant-loop-event
invariant-loop-event l = has_sync (drop l.event-index l.events) ≡ has_sync l.events
