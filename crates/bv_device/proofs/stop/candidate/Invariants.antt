use Rattle.std.proofs.Common.{◌≡◌, drop}
use Rattle.spec_disk.specs.Images.{written_to}
use Rattle.bv_device.proofs.StopLemmas.{pick}
use Rattle.bv_device.proofs.stop.candidate.Given as goal

-- so many steps more along the events that are left lead to the same value
abbrev pub invariant-loop-event : goal.invariant-loop-event
invariant-loop-event l = pick l.found (written_to l.at (drop l.event-index l.since)) l.left ≡ pick l.synced (written_to l.at l.since) l.n
