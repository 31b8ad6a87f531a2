use Rattle.std.proofs.Common.{arith, sym, ap, ◌∙◌, ◌≡◌, length}
use Rattle.bv_sessions.proofs.BackLemmas.{back-length, back-idle, fresh_all, all_end, all_show, no_others, same_basis}
use Rattle.bv_sessions.proofs.run.run_all.Goals as goal

pub run_each-shares-requires-clause-ready : goal.run_each-shares-requires-clause-ready
run_each-shares-requires-clause-ready g c = λ lifetimes outlive.
    fresh_all c.in_ok-turn.turn c.args.lines.now c.args.version (g.V.Keeps.basis c.args.value) c.in_ok-turn.shares.items c.in_ok-turn.ensures.shares c.args.claims.now c.requires.claims c.requires.version c.requires.known

pub close-requires-clause-this : goal.close-requires-clause-this
close-requires-clause-this g c =
    back-idle c.in_ok-turn.turn c.args.lines.now c.args.version c.in_ok-turn.shares.items c.run_each-shares.result.shares.items c.run_each-shares.result.ends.items c.run_each-shares.ensures.back

pub close-requires-clause-all : goal.close-requires-clause-all
close-requires-clause-all g c =
    let ended = c.run_each-shares.result in let shares = c.in_ok-turn.shares in let count = c.in_ok-turn.ensures.count in
    ended.shares.ok.0 ∙ (back-length c.in_ok-turn.turn c.args.lines.now c.args.version shares.items ended.shares.items ended.ends.items c.run_each-shares.ensures.back).0 ∙ sym shares.ok.0 ∙ count.1 ∙ sym count.0

pub returns-clause-basis : goal.returns-clause-basis
returns-clause-basis g c =
    let ended = c.run_each-shares.result in let shares = c.in_ok-turn.shares in
    let count : length shares.items ≡ 16 = sym shares.ok.0 ∙ c.in_ok-turn.ensures.count.1 in
    same_basis c.in_ok-turn.turn c.args.lines.now c.args.version (g.V.Keeps.basis c.args.value) shares.items c.in_ok-turn.ensures.shares ended.shares.items ended.ends.items c.run_each-shares.ensures.back c.close.result (omega arith) c.close.ensures.basis

pub returns-clause-ends : goal.returns-clause-ends
returns-clause-ends g c =
    let laws = g.met.V.Serves g.world.𝓛 g.world.𝓜 g.world.𝓡 ((λ s x. x), (λ x. x), (λ x. x), λ x. x) in
    let ended = c.run_each-shares.result in let shares = c.in_ok-turn.shares in
    let count : length shares.items ≡ 16 = sym shares.ok.0 ∙ c.in_ok-turn.ensures.count.1 in
    let basis = same_basis c.in_ok-turn.turn c.args.lines.now c.args.version (g.V.Keeps.basis c.args.value) shares.items c.in_ok-turn.ensures.shares ended.shares.items ended.ends.items c.run_each-shares.ensures.back c.close.result (omega arith) c.close.ensures.basis in
    all_end c.in_ok-turn.turn c.args.lines.now c.args.version (g.V.Keeps.basis c.args.value) shares.items c.in_ok-turn.ensures.shares ended.shares.items ended.ends.items c.run_each-shares.ensures.back c.close.result laws.session_is (ap (λ b. b.geometry.version) basis ∙ c.requires.version) count c.close.ensures.lists

pub returns-clause-shows : goal.returns-clause-shows
returns-clause-shows g c =
    let laws = g.met.V.Serves g.world.𝓛 g.world.𝓜 g.world.𝓡 ((λ s x. x), (λ x. x), (λ x. x), λ x. x) in
    let ended = c.run_each-shares.result in let shares = c.in_ok-turn.shares in
    let count : length shares.items ≡ 16 = sym shares.ok.0 ∙ c.in_ok-turn.ensures.count.1 in
    let basis = same_basis c.in_ok-turn.turn c.args.lines.now c.args.version (g.V.Keeps.basis c.args.value) shares.items c.in_ok-turn.ensures.shares ended.shares.items ended.ends.items c.run_each-shares.ensures.back c.close.result (omega arith) c.close.ensures.basis in
    all_show c.in_ok-turn.turn c.args.lines.now c.args.version (g.V.Keeps.basis c.args.value) shares.items c.in_ok-turn.ensures.shares ended.shares.items ended.ends.items c.run_each-shares.ensures.back c.close.result laws.session_is (ap (λ b. b.geometry.version) basis ∙ c.requires.version) count c.close.ensures.lists c.close.ensures.basis

pub returns-clause-count : goal.returns-clause-count
returns-clause-count g c =
    let ended = c.run_each-shares.result in let shares = c.in_ok-turn.shares in
    ended.ends.ok.0 ∙ (back-length c.in_ok-turn.turn c.args.lines.now c.args.version shares.items ended.shares.items ended.ends.items c.run_each-shares.ensures.back).1 ∙ sym shares.ok.0 ∙ c.in_ok-turn.ensures.count.1

pub returns-clause-others : goal.returns-clause-others
returns-clause-others g c =
    let laws = g.met.V.Serves g.world.𝓛 g.world.𝓜 g.world.𝓡 ((λ s x. x), (λ x. x), (λ x. x), λ x. x) in
    let ended = c.run_each-shares.result in let shares = c.in_ok-turn.shares in
    let count : length shares.items ≡ 16 = sym shares.ok.0 ∙ c.in_ok-turn.ensures.count.1 in
    no_others c.in_ok-turn.turn c.args.lines.now c.args.version (g.V.Keeps.basis c.args.value) shares.items c.in_ok-turn.ensures.shares ended.shares.items ended.ends.items c.run_each-shares.ensures.back c.close.result laws.session_is count c.close.ensures.owned
