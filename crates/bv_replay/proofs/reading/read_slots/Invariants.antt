use Rattle.std.proofs.Common.{◌≡◌, take}
use Rattle.spec_disk.specs.Disk.{Blocks}
use Rattle.bv_replay.specs.Slots.{Tells, slots_from}
use Rattle.bv_replay.proofs.reading.read_slots.Given as goal

-- the device is as it was, and the blocks so far are those of the slots
abbrev pub invariant-loop-ahead : goal.invariant-loop-ahead
invariant-loop-ahead g l = record {
  seen : g.D.Device.seen l.dev ≡ g.D.Device.seen l.fn.dev;
  so_far : (image : Blocks) → Tells (g.D.Device.seen l.fn.dev) image → take l.from l.fn.blocks ≡ slots_from l.geometry image l.slot l.from
      → take l.ahead l.blocks ≡ slots_from l.geometry image l.slot l.ahead;
}
