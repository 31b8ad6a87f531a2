use Rattle.std.specs.Prelude.{take}
use Rattle.bv_turn.specs.Tokens.{list_of}
use Rattle.bv_session.specs.Adds.{HasPut}
use Rattle.bv_session.specs.Sessions.{BasisHas, Since, Stays, own}
use Rattle.bv_session.specs.Written.{HasWritten}
use Rattle.spec_session.specs.Lines.{puts}
use Rattle.bv_session.proofs.adding.put_all.Given as goal

abbrev pub invariant-loop-index : goal.invariant-loop-index
invariant-loop-index g l = record {
  stays : Stays l.turn l.fn.share l.share;
  has : HasPut l.adding l.index (g.T.Serves.admitted l.add) (own l.share);
  since : Since l.who (puts l.index) (own l.fn.share) (own l.share);
  written : BasisHas l.fn.share (λ b. HasWritten b.told (take l.index l.adding.blocks) (list_of l.share));
}
