use Rattle.std.proofs.Common.{◌≡◌, ◌-◌, ◌≤◌, length, take}
use Rattle.std.specs.Io.KnownBytes.{Consumes}
use Rattle.bv_io.proofs.filling.fill.Given as goal

abbrev pub invariant-loop-filled : goal.invariant-loop-filled
invariant-loop-filled g l = record {
  within : l.filled ≤ length l.into;
  moved : Consumes (g.S.Source.seen l.fn.source).told (g.S.Source.seen l.source).told (take l.filled l.into);
  faults : (g.S.Source.seen l.source).fault_count ≡ (g.S.Source.seen l.fn.source).fault_count;
}

abbrev pub decreases-loop-filled : goal.decreases-loop-filled
decreases-loop-filled g l = length l.into - l.filled
