use Rattle.std.proofs.Common.{◌∙◌, ap, refl}
use Rattle.bv_turn.specs.Tokens.{list_of}
use Rattle.spec_session.specs.Own.{OwnAdd, add_of}
use Rattle.bv_session.proofs.AddLemmas.{settle_err, settle_ends, token_under_way}
use Rattle.bv_session.proofs.Moves.{add_gains, refuses_gain, does_gain}
use Rattle.bv_session.proofs.WrittenLemmas.{put_full, put_written}
use Rattle.bv_session.proofs.adding.settle.Goals as goal

pub settle-requires-clause-add : goal.settle-requires-clause-add
settle-requires-clause-add g c = token_under_way _ _ _ c.requires.admitted c.requires.add

pub settle-requires-clause-all : goal.settle-requires-clause-all
settle-requires-clause-all g c = put_full c.args.adding.now _ _ c.requires.admitted _ (list_of c.args.share.now) c.requires.basis refl

pub settle-requires-clause-written : goal.settle-requires-clause-written
settle-requires-clause-written g c = put_written c.args.adding.now _ _ c.requires.admitted _ (list_of c.args.share.now) c.requires.basis c.requires.blob

pub retire-requires-clause-add : goal.retire-requires-clause-add
retire-requires-clause-add g c =
    token_under_way _ _ _ (c.in-Err.ensures.back ∙ c.requires.admitted) (ap add_of c.in-Err.ensures.err ∙ c.requires.add)

pub returns-in-Err-clause-line : goal.returns-in-Err-clause-line
returns-in-Err-clause-line g c =
    settle_err c.args.adding.now c.args.who _ _ _ _ _ (ap (λ (t : OwnAdd). t.root) (c.in-Err.ensures.back ∙ c.requires.admitted)) c.in-Err.ensures.err c.retire.ensures.ok

pub returns-in-Err-clause-idle : goal.returns-in-Err-clause-idle
returns-in-Err-clause-idle g c = add_gains c.args.who _ _ _ _ c.retire.ensures.ok

pub returns-in-Refused-clause-line : goal.returns-in-Refused-clause-line
returns-in-Refused-clause-line g c =
    settle_ends c.args.adding.now c.args.who _ _ _ _ _ (ap (λ (t : OwnAdd). t.root) c.requires.admitted) (refuses_gain _ _ _ _ _ _ _ c.in-Ok.ensures.ok c.in-Refused.is) c.result_of.ensures

pub returns-in-Refused-clause-idle : goal.returns-in-Refused-clause-idle
returns-in-Refused-clause-idle g c = add_gains c.args.who _ _ _ _ (refuses_gain _ _ _ _ _ _ _ c.in-Ok.ensures.ok c.in-Refused.is)

pub returns-in-Done-clause-line : goal.returns-in-Done-clause-line
returns-in-Done-clause-line g c =
    settle_ends c.args.adding.now c.args.who _ _ _ _ _ (ap (λ (t : OwnAdd). t.root) c.requires.admitted) (does_gain _ _ _ _ _ _ c.in-Ok.ensures.ok c.in-Done.is) refl

pub returns-in-Done-clause-idle : goal.returns-in-Done-clause-idle
returns-in-Done-clause-idle g c = add_gains c.args.who _ _ _ _ (does_gain _ _ _ _ _ _ c.in-Ok.ensures.ok c.in-Done.is)
