use Rattle.std.proofs.Common.{◌≡◌, drop}
use Rattle.spec_disk.specs.Images.{written_to}
use Rattle.bv_device.proofs.stop.is_written.Given as goal

-- what is written to the block is written by the events that are left
abbrev pub invariant-loop-event : goal.invariant-loop-event
invariant-loop-event l = written_to l.at (drop l.event-index l.since) ≡ written_to l.at l.since
