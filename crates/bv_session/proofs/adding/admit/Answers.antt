use Rattle.std.proofs.Common.{ap, ◌∙◌}
use Rattle.spec_session.specs.Own.{OwnAdd, add_of, admitted_add}
use Rattle.bv_turn.specs.Tokens.{list_of}
use Rattle.bv_session.proofs.AddLemmas.{admit_has, admit_err, admit_ends, admit_goes_on, token_under_way}
use Rattle.bv_session.proofs.Moves.{add_gains, admit_refused, refused_gain, done_gain, refused_is}
use Rattle.bv_session.proofs.WrittenLemmas.{done_none, admitted_token}
use Rattle.bv_session.proofs.adding.admit.Goals as goal

pub admit-requires-clause-add : goal.admit-requires-clause-add
admit-requires-clause-add g c = token_under_way _ _ _ c.requires.begun c.requires.add

pub retire_begun-requires-clause-add : goal.retire_begun-requires-clause-add
retire_begun-requires-clause-add g c =
    token_under_way _ _ _ (c.in-Err.ensures.back.0 ∙ c.requires.begun) (ap add_of c.in-Err.ensures.err ∙ c.requires.add)

pub put_and_settle-requires-clause-none : goal.put_and_settle-requires-clause-none
put_and_settle-requires-clause-none g c = done_none (list_of c.admit.new.share) _ _ c.in-Ok.ensures.none c.in-Done.is

pub put_and_settle-requires-clause-admitted : goal.put_and_settle-requires-clause-admitted
put_and_settle-requires-clause-admitted g c = admitted_token g.T.Serves.admitted _ _ _ c.in-Ok.ensures.done c.in-Done.is ∙ ap admitted_add c.requires.begun

pub put_and_settle-requires-clause-add : goal.put_and_settle-requires-clause-add
put_and_settle-requires-clause-add g c =
    admit_has c.args.adding.now c.args.who _ _ _ c.requires.add (done_gain _ _ _ _ _ _ _ c.in-Ok.ensures.ok c.in-Done.is)

pub returns-in-Err-clause-line : goal.returns-in-Err-clause-line
returns-in-Err-clause-line g c =
    let admit = c.in-Err.ensures in
    admit_err c.args.adding.now c.args.who _ _ _ _ _ (ap (λ (t : OwnAdd). t.root) (admit.back.0 ∙ c.requires.begun)) admit.err c.retire_begun.ensures.ok

pub returns-in-Err-clause-idle : goal.returns-in-Err-clause-idle
returns-in-Err-clause-idle g c = add_gains c.args.who _ _ _ _ c.retire_begun.ensures.ok

pub returns-in-Refused-clause-line : goal.returns-in-Refused-clause-line
returns-in-Refused-clause-line g c =
    let admit = c.in-Ok.ensures in
    admit_ends c.args.adding.now c.args.who _ _ _ _ _ (refused_is _ _ admit.refused c.in-Refused.is) (ap (λ (t : OwnAdd). t.root) c.requires.begun) (refused_gain _ _ _ _ _ _ _ admit.ok c.in-Refused.is) c.result_of.ensures

pub returns-in-Refused-clause-idle : goal.returns-in-Refused-clause-idle
returns-in-Refused-clause-idle g c =
    let admit = c.in-Ok.ensures in
    add_gains c.args.who _ _ _ _ (refused_gain _ _ _ _ _ _ _ admit.ok c.in-Refused.is) ∙ admit_refused _ (g.T.Serves.begun c.args.begun).root _ (refused_is _ _ admit.refused c.in-Refused.is)

pub returns-in-Done-clause-line : goal.returns-in-Done-clause-line
returns-in-Done-clause-line g c =
    admit_goes_on c.args.adding.now c.args.who _ _ _ _ _ (ap (λ (t : OwnAdd). t.root) c.requires.begun) (done_gain _ _ _ _ _ _ _ c.in-Ok.ensures.ok c.in-Done.is) c.put_and_settle.ensures.line
