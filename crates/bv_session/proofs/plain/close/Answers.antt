use Rattle.std.proofs.Common.{refl}
use Rattle.bv_session.proofs.Moves.{refuses_gain, does_gain}
use Rattle.bv_session.proofs.plain.close.Goals as goal

pub returns-in-Refused-clause-line : goal.returns-in-Refused-clause-line
returns-in-Refused-clause-line g c = (_, refuses_gain _ _ _ _ _ _ _ c.in-Ok.ensures.ok c.in-Refused.is, c.result_of.ensures)

pub returns-in-Done-clause-line : goal.returns-in-Done-clause-line
returns-in-Done-clause-line g c = (_, does_gain _ _ _ _ _ _ c.in-Ok.ensures.ok c.in-Done.is, refl)
