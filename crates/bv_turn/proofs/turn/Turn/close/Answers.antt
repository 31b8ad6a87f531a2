use Rattle.std.proofs.Common.{ap, sym, ◌∙◌, subst, length}
use Rattle.bv_turn.specs.Rule.{Closed}
use Rattle.bv_turn.specs.Tokens.{session_of}
use Rattle.bv_turn.proofs.ShareLemmas.{length-parts, lists_at_close, owned_at_close, basis_at_close, parts_of}
use Rattle.bv_turn.proofs.turn.Turn.close.Goals as goal

pub finish-requires-clause-all : goal.finish-requires-clause-all
finish-requires-clause-all g c =
    ap length c.gather-all.ensures.parts ∙ length-parts parts_of session_of (λ s. s.one) c.args.shares.items ∙ sym c.args.shares.ok.0 ∙ c.requires.all

pub returns-clause-lists : goal.returns-clause-lists
returns-clause-lists g c =
    lists_at_close c.args.shares.items c.finish.result
    (subst (λ ps. Closed g.T.Keeps.session g.T.Keeps.entries g.T.Keeps.basis ps c.finish.result) c.gather-all.ensures.parts c.finish.ensures)

pub returns-clause-owned : goal.returns-clause-owned
returns-clause-owned g c =
    owned_at_close c.args.shares.items c.finish.result
    (subst (λ ps. Closed g.T.Keeps.session g.T.Keeps.entries g.T.Keeps.basis ps c.finish.result) c.gather-all.ensures.parts c.finish.ensures)

pub returns-clause-basis : goal.returns-clause-basis
returns-clause-basis g c =
    basis_at_close c.args.shares.items c.finish.result
    (subst (λ ps. Closed g.T.Keeps.session g.T.Keeps.entries g.T.Keeps.basis ps c.finish.result) c.gather-all.ensures.parts c.finish.ensures)
