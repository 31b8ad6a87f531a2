use Rattle.std.proofs.Common.{arith, sym, subst, ◌∙◌, ◌≡◌, ◌<◌, length}
use Rattle.std.specs.List.{All}
use Rattle.bv_turn_uses.specs.Events.{AllServed}
use Rattle.bv_turn_uses.proofs.EndsLemmas.{Ends-length, Ends-idle, fresh_all, all_served, all_owned, same_basis}
use Rattle.bv_turn_uses.proofs.run.run_sessions.Goals as goal

pub run_each-shares-requires-clause-ready : goal.run_each-shares-requires-clause-ready
run_each-shares-requires-clause-ready g c = λ lifetimes outlive.
    fresh_all c.in_ok-turn.turn c.args.script.now (g.T.Keeps.basis c.args.value) c.in_ok-turn.shares.items c.in_ok-turn.ensures.shares

pub close-requires-clause-this : goal.close-requires-clause-this
close-requires-clause-this g c =
    Ends-idle c.in_ok-turn.turn c.args.script.now c.in_ok-turn.shares.items c.run_each-shares.result.shares.items c.run_each-shares.result.whole.items c.run_each-shares.ensures.back

pub close-requires-clause-all : goal.close-requires-clause-all
close-requires-clause-all g c =
    let ended = c.run_each-shares.result in let shares = c.in_ok-turn.shares in let count = c.in_ok-turn.ensures.count in
    ended.shares.ok.0 ∙ (Ends-length c.in_ok-turn.turn c.args.script.now shares.items ended.shares.items ended.whole.items c.run_each-shares.ensures.back).0 ∙ sym shares.ok.0 ∙ count.1 ∙ sym count.0

pub returns-clause-served : goal.returns-clause-served
returns-clause-served g c =
    let ended = c.run_each-shares.result in let shares = c.in_ok-turn.shares in
    let count : length shares.items ≡ c.args.sessions = sym shares.ok.0 ∙ c.in_ok-turn.ensures.count.1 in
    subst (λ n. AllServed g.T.Keeps.session n c.args.script.now.lines.items (g.T.Keeps.entries c.close.result) ended.whole.items) count
    (all_served c.in_ok-turn.turn c.args.script.now (g.T.Keeps.basis c.args.value) shares.items c.in_ok-turn.ensures.shares ended.shares.items ended.whole.items c.run_each-shares.ensures.back c.close.result c.close.ensures.lists)

pub returns-clause-owned : goal.returns-clause-owned
returns-clause-owned g c =
    let ended = c.run_each-shares.result in let shares = c.in_ok-turn.shares in
    let count : length shares.items ≡ c.args.sessions = sym shares.ok.0 ∙ c.in_ok-turn.ensures.count.1 in
    subst (λ n. All (λ e. g.T.Keeps.session e < n) (g.T.Keeps.entries c.close.result)) count
    (all_owned c.in_ok-turn.turn c.args.script.now (g.T.Keeps.basis c.args.value) shares.items c.in_ok-turn.ensures.shares ended.shares.items ended.whole.items c.run_each-shares.ensures.back c.close.result c.close.ensures.owned)

pub returns-clause-basis : goal.returns-clause-basis
returns-clause-basis g c =
    let ended = c.run_each-shares.result in let shares = c.in_ok-turn.shares in
    let count : length shares.items ≡ c.args.sessions = sym shares.ok.0 ∙ c.in_ok-turn.ensures.count.1 in
    let some = c.requires.sessions.0 in
    same_basis c.in_ok-turn.turn c.args.script.now (g.T.Keeps.basis c.args.value) shares.items c.in_ok-turn.ensures.shares ended.shares.items ended.whole.items c.run_each-shares.ensures.back c.close.result (omega arith) c.close.ensures.basis
