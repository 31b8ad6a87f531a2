-- The length is that of the synced part of the events so far.
use Rattle.std.proofs.Common.{◌≡◌, length, take}
use Rattle.spec_disk.specs.Disk.{synced_part}
use Rattle.spec_disk.proofs.now.synced_len.Given as goal

abbrev pub invariant-loop-i : goal.invariant-loop-i
invariant-loop-i l = l.len ≡ length (synced_part (take l.i l.events))
