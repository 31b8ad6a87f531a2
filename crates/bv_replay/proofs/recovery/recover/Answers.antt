-- What stops leave follows from the plan.
use Rattle.bv_replay.proofs.RecoverLemmas.{plan_of, recover_stops, recover_rests}
use Rattle.bv_replay.proofs.recovery.recover.Goals as goal

pub returns-clause-crash : goal.returns-clause-crash
returns-clause-crash g c =
    recover_stops c.with_fault.result c.args.geometry c.args.replay.now _ _ c.requires.fits (c.with_fault.ensures.performs (plan_of c.args.geometry c.args.replay.now) _ c.run_if_needed-recovered.ensures)

pub returns-clause-rests : goal.returns-clause-rests
returns-clause-rests g c =
    recover_rests c.with_fault.result c.args.geometry c.args.replay.now _ _ c.requires.fits (c.with_fault.ensures.performs (plan_of c.args.geometry c.args.replay.now) _ c.run_if_needed-recovered.ensures)
