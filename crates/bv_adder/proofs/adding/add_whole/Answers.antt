use Rattle.std.proofs.Common.{◌≤◌, ◌+◌, arith}
use Rattle.spec_tree.specs.Tree.{need_of}
use Rattle.spec_core.specs.declared.act.Act.TheVariants.{Begin}
use Rattle.spec_core.specs.declared.reply.Reply.TheVariants.{Granted}
use Rattle.bv_claims.specs.Tokens.{grant_need}
use Rattle.bv_adder.specs.Steps.{begin_refusal}
use Rattle.bv_adder.proofs.GoesLemmas.{goes_join, goes_one}
use Rattle.bv_adder.proofs.LineLemmas.{goes_after, goes_by, idle_after, idle_begin, line_after, line_begin, line_begun}
use Rattle.bv_adder.proofs.StepLemmas.{has_claimed}
use Rattle.bv_adder.proofs.adding.add_whole.Goals as goal

pub admit-requires-clause-claimed : goal.admit-requires-clause-claimed
admit-requires-clause-claimed g c =
    let arm = c.in-Ok-begin in
    let room : need_of c.args.adding.now.version c.args.adding.now.size + 4 ≤ c.reserve.new.self.spare = omega (arith, c.in-Ok.ensures.ok, c.need.ensures) in
    has_claimed c.args.adding.now c.args.volume.now c.reserve.new.self c.begin.new.self c.args.who c.root.result c.size.result (grant_need arm.grant) c.args.claims.now arm.begun c.claim-claimed.result
    c.reserve.ensures.rest c.requires.version c.root.ensures c.size.ensures room (arm.ensures.begun.0, arm.ensures.begun.1) arm.ensures.row c.requires.table c.claim-claimed.ensures.table c.claim-claimed.ensures.need arm.ensures.grant.1

pub returns-in-Err-begin-clause-goes : goal.returns-in-Err-begin-clause-goes
returns-in-Err-begin-clause-goes g c =
    goes_after c.args.adding.now c.args.volume.now c.reserve.new.self c.begin.new.self c.args.who c.reserve.ensures.rest
    (goes_by c.reserve.new.self c.begin.new.self c.args.who (Begin c.root.result c.size.result) (begin_refusal c.in-Err-begin.fault) c.in-Err-begin.ensures.row)

pub returns-in-Err-begin-clause-line : goal.returns-in-Err-begin-clause-line
returns-in-Err-begin-clause-line g c =
    line_after c.args.adding.now c.args.volume.now c.reserve.new.self c.begin.new.self c.args.who c.reserve.ensures.rest c.begin_refused.result
    (line_begin c.args.adding.now c.reserve.new.self c.begin.new.self c.args.who c.root.result c.size.result c.root.ensures c.size.ensures (begin_refusal c.in-Err-begin.fault) c.begin_refused.result c.in-Err-begin.ensures.row c.begin_refused.ensures)

pub returns-in-Err-begin-clause-idle : goal.returns-in-Err-begin-clause-idle
returns-in-Err-begin-clause-idle g c =
    idle_begin c.args.adding.now c.reserve.new.self c.begin.new.self c.args.who c.root.result c.size.result c.root.ensures c.size.ensures (begin_refusal c.in-Err-begin.fault) c.begin_refused.result c.in-Err-begin.ensures.row c.begin_refused.ensures
    (idle_after c.args.adding.now c.args.volume.now c.reserve.new.self c.begin.new.self c.args.who c.reserve.ensures.rest c.requires.idle)

pub returns-in-Ok-begin-clause-goes : goal.returns-in-Ok-begin-clause-goes
returns-in-Ok-begin-clause-goes g c =
    goes_after c.args.adding.now c.args.volume.now c.reserve.new.self c.admit.new.volume c.args.who c.reserve.ensures.rest
    (goes_join c.reserve.new.self c.begin.new.self c.admit.new.volume
    (goes_one c.reserve.new.self c.begin.new.self c.args.who (Begin c.root.result c.size.result) Granted c.in-Ok-begin.ensures.row) c.admit.ensures.goes)

pub returns-in-Ok-begin-clause-line : goal.returns-in-Ok-begin-clause-line
returns-in-Ok-begin-clause-line g c =
    line_after c.args.adding.now c.args.volume.now c.reserve.new.self c.admit.new.volume c.args.who c.reserve.ensures.rest c.admit.result
    (line_begun c.args.adding.now c.reserve.new.self c.begin.new.self c.args.who c.root.result c.size.result c.root.ensures c.size.ensures c.admit.new.volume c.admit.result c.in-Ok-begin.ensures.row c.admit.ensures.line)
