use Rattle.std.proofs.Common.{sym, subst, ◌∙◌, ◌≡◌, Some}
use mathlib.Core.Option.{some-injective}
use Rattle.bv_turn.specs.Rule.{Closed}
use Rattle.bv_turn.proofs.Ends.{closes}
use Rattle.bv_turn.proofs.turn.Turn.finish.Goals as goal

pub unreachable-requires : goal.unreachable-requires
unreachable-requires g c =
    let z = c.close_with-closed.ensures.values.2 in
    let q = closes g.T.Keeps.session _ _ g.T.Keeps.entries g.T.Keeps.basis z.0 c.args.seat.id c.args.seat.me.0 _ z.1 c.requires.idle c.requires.all z.4 in
    c.in_default.not-Some q.0 (some-injective _ _ (sym c.take.ensures.value ∙ q.1))

pub returns : goal.returns
returns g c =
    let z = c.close_with-closed.ensures.values.2 in
    let q = closes g.T.Keeps.session _ _ g.T.Keeps.entries g.T.Keeps.basis z.0 c.args.seat.id c.args.seat.me.0 _ z.1 c.requires.idle c.requires.all z.4 in
    let is : Some q.0 ≡ Some c.in-Some.value = some-injective _ _ (sym q.1 ∙ c.take.ensures.value) ∙ c.in-Some.is in
    let e : q.0 ≡ c.in-Some.value = cc in
    subst (λ v. Closed g.T.Keeps.session g.T.Keeps.entries g.T.Keeps.basis c.args.seat.me.0.parts v) e q.2
