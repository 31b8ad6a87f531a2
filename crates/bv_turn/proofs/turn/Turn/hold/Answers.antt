use Rattle.std.proofs.Common.{ap, sym, ◌∙◌, ◌≡◌, map}
use Rattle.bv_turn.specs.Entries.{entries_of}
use Rattle.bv_turn.specs.Views.{first_entries}
use Rattle.bv_turn.proofs.ShareLemmas.{knows, one_value}
use Rattle.bv_turn.proofs.turn.Turn.hold.Goals as goal

pub returns-clause-list : goal.returns-clause-list
returns-clause-list g c =
    let waiting = c.draw-ticket.new.share in let took = c.wait.ensures.took in let value = c.take.result.value in
    let known = knows g.T.Keeps.session waiting.session (g.T.Keeps.basis took.0) (g.T.Keeps.entries took.0) waiting.seat.me.0.parts waiting.one took.3 in
    let same : took.0 ≡ value = one_value c.wait.new.share.seat.me.1 took.0 value took.1 c.take.ensures.value in
    ap (λ m. map (λ x. x.1) (first_entries m.0.parts)) c.take.ensures.view ∙ ap (λ v. map (λ x. x.1) (first_entries v.parts)) took.2 ∙ known.plain_list
    ∙ (λ i. entries_of g.T.Keeps.session (sym (c.take.ensures.this.1 ∙ c.wait.ensures.this.1) i) (g.T.Keeps.entries (same i)))
