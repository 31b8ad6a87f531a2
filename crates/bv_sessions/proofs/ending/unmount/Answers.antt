use Rattle.std.proofs.Common.{sym, ◌∙◌}
use Rattle.bv_sessions.proofs.CloseLemmas.{was_given_up, was_unmounted}
use Rattle.bv_sessions.proofs.ending.unmount.Goals as goal

pub returns-clause-gives : goal.returns-clause-gives
returns-clause-gives g c =
    let u = c.unmount-history in
    λ cut. was_given_up c.args.volume u.result.0.history (g.S.Store.seen u.result.1) u.result.2 (u.ensures.row.0, u.ensures.row.1, u.ensures.row.2, u.ensures.row.3, u.ensures.row.4, u.ensures.row.5, u.ensures.row.7, u.ensures.row.8) (sym c.has_event.ensures ∙ cut)

pub returns-clause-unmounts : goal.returns-clause-unmounts
returns-clause-unmounts g c =
    let u = c.unmount-history in
    λ whole. was_unmounted c.args.volume u.result.0.history (g.S.Store.seen u.result.1) u.result.2 (u.ensures.row.0, u.ensures.row.1, u.ensures.row.2, u.ensures.row.3, u.ensures.row.4, u.ensures.row.5, u.ensures.row.7, u.ensures.row.8) u.ensures.settled (sym c.has_event.ensures ∙ whole)
