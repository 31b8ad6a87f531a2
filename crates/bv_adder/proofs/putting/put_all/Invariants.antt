use Rattle.spec_session.specs.Lines.{puts}
use Rattle.bv_session.specs.Sessions.{Since}
use Rattle.bv_adder.specs.Goes.{Goes}
use Rattle.bv_adder.specs.Steps.{HasPuts}
use Rattle.bv_adder.proofs.putting.put_all.Given as goal

abbrev pub invariant-loop-index : goal.invariant-loop-index
invariant-loop-index g l = record {
  goes : Goes l.fn.volume l.volume;
  has : HasPuts l.adding l.index l.who.session l.volume l.add;
  since : Since l.who (puts l.index) l.fn.volume.history.events l.volume.history.events;
}
