use Rattle.std.proofs.Common.{◌≡◌, length}
use Rattle.bv_io.proofs.StreamLemmas.{GivesFront}
use Rattle.bv_io.proofs.giving.give_all.Given as goal

abbrev pub invariant-loop-rest : goal.invariant-loop-rest
invariant-loop-rest g l = record {
  given : GivesFront (g.K.Sink.seen l.fn.sink).told (g.K.Sink.seen l.sink).told l.bytes l.rest;
  faults : (g.K.Sink.seen l.sink).fault_count ≡ (g.K.Sink.seen l.fn.sink).fault_count;
}

abbrev pub decreases-loop-rest : goal.decreases-loop-rest
decreases-loop-rest g l = length l.rest
