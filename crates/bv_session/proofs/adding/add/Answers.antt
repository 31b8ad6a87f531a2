use Rattle.std.proofs.Common.{◌∙◌}
use Rattle.bv_session.proofs.AddLemmas.{begin_has, begin_ends, begin_goes_on}
use Rattle.bv_session.proofs.Moves.{add_gains, begin_refused, refused_gain, done_gain, refused_is}
use Rattle.bv_session.proofs.adding.add.Goals as goal

pub admit-requires-clause-add : goal.admit-requires-clause-add
admit-requires-clause-add g c =
    begin_has c.args.adding.now c.args.who _ _ _ _ c.root-root.ensures c.size-size.ensures (done_gain _ _ _ _ _ _ _ c.in-Ok.ensures.ok c.in-Done.is)

pub returns-in-Refused-clause-line : goal.returns-in-Refused-clause-line
returns-in-Refused-clause-line g c =
    let begin = c.in-Ok.ensures in
    begin_ends c.args.adding.now c.args.who _ _ _ _ _ _ (refused_is _ _ begin.refused c.in-Refused.is) c.root-root.ensures c.size-size.ensures (refused_gain _ _ _ _ _ _ _ begin.ok c.in-Refused.is) c.result_of.ensures

pub returns-in-Refused-clause-idle : goal.returns-in-Refused-clause-idle
returns-in-Refused-clause-idle g c =
    let begin = c.in-Ok.ensures in
    add_gains c.args.who _ _ _ _ (refused_gain _ _ _ _ _ _ _ begin.ok c.in-Refused.is) ∙ begin_refused _ _ _ _ (refused_is _ _ begin.refused c.in-Refused.is) ∙ c.requires.idle

pub returns-in-Done-clause-line : goal.returns-in-Done-clause-line
returns-in-Done-clause-line g c =
    begin_goes_on c.args.adding.now c.args.who _ _ _ _ _ _ c.root-root.ensures c.size-size.ensures (done_gain _ _ _ _ _ _ _ c.in-Ok.ensures.ok c.in-Done.is) c.admit.ensures.line
