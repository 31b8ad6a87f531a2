use Rattle.std.proofs.Common.{ap, sym, ◌∙◌, ◌∷◌, ◌++◌, [], Some}
use Rattle.bv_turn.proofs.Ends.{starts}
use Rattle.bv_turn.proofs.turn.Turn.new.Goals as goal

pub new-requires : goal.new-requires
new-requires g c =
    let slots_are = c.push_reserved.ensures.items ∙ ap (λ z. z ++ Some c.args.value ∷ []) c.in-Ok-with_capacity.ensures.items in
    rw slots_are (starts g.T.Keeps.session c.args.seats _ g.T.Keeps.entries g.T.Keeps.basis c.args.value c.requires.empty (ap g.T.Keeps.basis (sym c.of.ensures)) c.requires.seats.1)

pub returns-in-Ok-new-clause-shares : goal.returns-in-Ok-new-clause-shares
returns-in-Ok-new-clause-shares g c = λ s low.
    let new = c.share_out.ensures.new s low in
    let key_is = c.in-Ok-new.ensures.ok.5 in
    (new.0, new.1, new.2, new.3, new.4, new.5, new.6 ∙ ap (λ k. Some (g.T.Keeps.basis k.first.value)) key_is ∙ ap (λ v. Some (g.T.Keeps.basis v)) c.of.ensures)
