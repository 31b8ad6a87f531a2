use Rattle.std.proofs.Common.{ap, refl}
use Rattle.spec_session.specs.Own.{add_of}
use Rattle.bv_session.proofs.Moves.{add_gains}
use Rattle.bv_session.proofs.opening.shut.Goals as goal

pub returns-in-Ok-clause-ok : goal.returns-in-Ok-clause-ok
returns-in-Ok-clause-ok g c = (refl, (_, c.in-Ok.ensures.ok))

pub returns-in-Ok-clause-idle : goal.returns-in-Ok-clause-idle
returns-in-Ok-clause-idle g c = add_gains c.args.who _ _ _ _ c.in-Ok.ensures.ok

pub returns-in-Err-clause-idle : goal.returns-in-Err-clause-idle
returns-in-Err-clause-idle g c = ap add_of c.in-Err.ensures.err
