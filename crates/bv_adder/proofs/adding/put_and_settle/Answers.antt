use Rattle.std.proofs.Common.{ap}
use Rattle.spec_core.specs.declared.act.Act.TheVariants.{Retire}
use Rattle.spec_core.specs.declared.reply.Reply.TheVariants.{Retired}
use Rattle.spec_session.specs.Own.{OwnAdd}
use Rattle.bv_session.proofs.AddLemmas.{puts_go_on}
use Rattle.bv_adder.proofs.GoesLemmas.{goes_join, goes_more}
use Rattle.bv_adder.proofs.LineLemmas.{idle_retire, line_stopped}
use Rattle.bv_adder.proofs.StepLemmas.{under_way}
use Rattle.bv_adder.proofs.adding.put_and_settle.Goals as goal

pub retire-requires : goal.retire-requires
retire-requires g c =
    let stops = c.in-Err.ensures.err in
    under_way c.args.adding.now stops.count c.args.who.session c.put_all.new.volume c.put_all.new.add stops.add

pub returns-in-Err-clause-goes : goal.returns-in-Err-clause-goes
returns-in-Err-clause-goes g c =
    goes_more c.args.volume.now c.put_all.new.volume c.retire.new.self c.args.who (Retire c.put_all.new.add.root) Retired c.in-Err.ensures.goes c.retire.ensures.row

pub returns-in-Err-clause-line : goal.returns-in-Err-clause-line
returns-in-Err-clause-line g c =
    line_stopped c.args.adding.now c.args.volume.now c.put_all.new.volume c.retire.new.self c.args.who c.in-Err.fault c.put_all.new.add _ c.in-Err.ensures.err c.put_refused.ensures c.retire.ensures.row

pub returns-in-Err-clause-idle : goal.returns-in-Err-clause-idle
returns-in-Err-clause-idle g c =
    idle_retire c.args.adding.now c.put_all.new.volume c.retire.new.self c.args.who c.put_all.new.add.root
    (ap (λ (x : OwnAdd). x.root) c.in-Err.ensures.err.add.is) c.retire.ensures.row

pub returns-in-Ok-clause-goes : goal.returns-in-Ok-clause-goes
returns-in-Ok-clause-goes g c =
    goes_join c.args.volume.now c.put_all.new.volume c.settle.new.volume c.in-Ok.ensures.goes c.settle.ensures.goes

pub returns-in-Ok-clause-line : goal.returns-in-Ok-clause-line
returns-in-Ok-clause-line g c =
    puts_go_on c.args.adding.now c.args.who _ c.args.volume.now.history.events c.put_all.new.volume.history.events c.settle.new.volume.history.events c.in-Ok.ensures.since c.settle.ensures.line
