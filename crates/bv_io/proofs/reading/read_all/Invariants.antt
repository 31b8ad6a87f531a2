use Rattle.std.proofs.Common.{◌≡◌, ◌+◌, ◌-◌, ◌≤◌, vec_len}
use Rattle.std.specs.Io.KnownBytes.{Consumes}
use Rattle.bv_io.proofs.reading.read_all.Given as goal

abbrev pub invariant-loop-bytes : goal.invariant-loop-bytes
invariant-loop-bytes g l = record {
  taken : Consumes (g.S.Source.seen l.fn.source).told (g.S.Source.seen l.source).told l.bytes.items;
  within : vec_len l.bytes ≤ l.limit;
  faults : (g.S.Source.seen l.source).fault_count ≡ (g.S.Source.seen l.fn.source).fault_count;
}

abbrev pub decreases-loop-bytes : goal.decreases-loop-bytes
decreases-loop-bytes g l = l.limit + 1 - vec_len l.bytes
