use Rattle.std.proofs.Common.{◌≡◌, ◌≤◌}
use Rattle.bv_device.specs.Stop.{open_blocks}
use Rattle.bv_device.proofs.StopLemmas.{Mixed}
use Rattle.bv_device.proofs.stop.mix_all.Given as goal

abbrev pub invariant-loop-b : goal.invariant-loop-b
invariant-loop-b l = record {
  opened : l.opened ≡ open_blocks l.since l.b;
  few : l.opened ≤ l.b;
  mixed : Mixed l.fn.image l.image l.since l.choice l.b;
}
